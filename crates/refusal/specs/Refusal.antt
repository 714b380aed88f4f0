-- "A refusal gives its number, the entry and the row (0 where none applies)."
use Rattle.std.specs.Prelude.{ℕ}

-- a refusal in the papers' numbers; number 0 is no refusal
pub record Numbered : Type 0 where
  pub no : ℕ
  pub entry : ℕ
  pub row : ℕ

-- "A row is given for 4 to 7 only."
abbrev pub in_row : ℕ → ℕ → Numbered
in_row k row = record { no = k; entry = 0; row = row }

abbrev pub refuse : ℕ → Numbered
refuse k = in_row k 0

abbrev pub none : Numbered
none = refuse 0

-- "An entry is given for 12 to 16 and for refusals 1 to 7 of a table inside a file"
abbrev pub in_entry : ℕ → Numbered → Numbered
in_entry i r = record { no = r.no; entry = i; row = r.row }
