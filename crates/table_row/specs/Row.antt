-- A row, and its own check: "in each 4, 5, 6".
use Rattle.std.specs.Prelude.{Bool, not, cond, List, [], ◌∷◌, ℕ, eqb}
use Rattle.basics.specs.Range.{inside}
use Rattle.table_row.specs.declared.Row.{Row}
use Rattle.table_row.specs.Limits.{most_slots}

-- a row from its fields, which stand as "(T, C, D)"
abbrev pub row_by : (ℕ → ℕ) → Row
row_by f = record { period = f 0; execution = f 1; deadline = f 2 }

-- the fields of a row in that order
abbrev pub fields_of : Row → List ℕ
fields_of r = r.period ∷ r.execution ∷ r.deadline ∷ []

-- a row of zeros, as it stands past the count
abbrev pub no_row : Row
no_row = row_by (λ k. 0)

-- "T is 1 to 4,096, D is 1 to T, C is 1 to D": 4, 5 or 6 for T, D or C outside its range, 0 for a row that is in order
unfoldable pub row_refusal : Row → ℕ
row_refusal r =
    cond (inside 1 r.period most_slots)
    (cond (inside 1 r.deadline r.period)
    (cond (inside 1 r.execution r.deadline) 0 6)
    5)
    4

unfoldable pub faulty : Row → Bool
faulty r = not (eqb (row_refusal r) 0)
