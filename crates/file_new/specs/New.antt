-- The new file: "with the table of that number replaced in its place, or added as the last entry", and its refusals.
use Rattle.std.specs.Prelude.{Bool, cond, ℕ, List, [], ◌∷◌, length, leb, eqb}
use Rattle.refusal.specs.Refusal.{Numbered, refuse, none}
use Rattle.table.specs.declared.Table.{Table}
use Rattle.basics.specs.When.{when, unless}
use Rattle.refusal.specs.Order.{first}
use Rattle.file_entries.specs.Limits.{most_entries, most_bytes}
use Rattle.file_kinds.specs.Kinds.{table_kind, is_note}
use Rattle.file_entries.specs.Entries.{kind_under}
use Rattle.file_contents.specs.File.{Entry, entry_by, encode, entries_of}
use Rattle.file_bodies.specs.Body.{table_bytes}
use Rattle.table.specs.Check.{table_refusal}
use Rattle.file_check.specs.Check.{file_refusal}

-- the entry of a table
abbrev pub table_entry : ℕ → Table → Entry
table_entry number t = entry_by table_kind number (table_bytes t)

-- e in the place of the entry that has its number, or last
unfoldable pub put_entry : List Entry → Entry → List Entry
put_entry [] e = e ∷ []
put_entry (d ∷ ds) e = cond (eqb d.number e.number) (e ∷ ds) (d ∷ put_entry ds e)

unfoldable pub new_entries : List ℕ → ℕ → Table → List Entry
new_entries s number t = put_entry (entries_of s) (table_entry number t)

unfoldable pub new_file : List ℕ → ℕ → Table → List ℕ
new_file s number t = encode (new_entries s number t)

-- whether the number is a note's
abbrev pub note_has : List ℕ → ℕ → Bool
note_has s number = is_note (kind_under s number)

-- "Put: the file, the new table 1 to 7, 17, then 11 for a 65th entry, 9 for a file grown too long, 19."
unfoldable pub put_refusal : List ℕ → ℕ → Table → ℕ → Numbered
put_refusal s number t room =
    first (file_refusal s)
    (first (table_refusal t)
    (when (note_has s number) (refuse 17)
    (unless (leb (length (new_entries s number t)) most_entries) (refuse 11)
    (unless (leb (length (new_file s number t)) most_bytes) (refuse 9)
    (unless (leb (length (new_file s number t)) room) (refuse 19) none)))))
