-- "Find gives the table with a number." In order: "the file, then 17".
use Rattle.std.specs.Prelude.{Result, Ok, Err, Bool, cond, ℕ, List, eqb}
use Rattle.refusal.specs.declared.Refusal.{Refusal}
use Rattle.table.specs.declared.Table.{Table}
use Rattle.refusal.specs.Refusal.{Numbered, refuse, none}
use Rattle.table.specs.Rows.{no_table}
use Rattle.basics.specs.When.{unless}
use Rattle.refusal.specs.Told.{told}
use Rattle.refusal.specs.Order.{first}
use Rattle.file_kinds.specs.Kinds.{is_table}
use Rattle.file_entries.specs.Entries.{seek_of, kind_under}
use Rattle.file_bodies.specs.Body.{table_at}
use Rattle.file_check.specs.Check.{file_refusal}

-- whether a table has the number
abbrev pub table_has : List ℕ → ℕ → Bool
table_has s number = is_table (kind_under s number)

-- 17: "find: no table has the number"
unfoldable pub find_refusal : List ℕ → ℕ → Numbered
find_refusal s number = first (file_refusal s) (unless (table_has s number) (refuse 17) none)

-- the numbers of an answer, with its table
pub record Found : Type 0 where
  pub refusal : Numbered
  pub table : Table

-- this paper's numbers for each case of the answer
abbrev pub found : Result Table Refusal → Found
found (Ok t) = record { refusal = none; table = t }
found (Err r) = record { refusal = told r; table = no_table }

-- "All other numbers of a refused answer are 0: [..] the table that find would give."
unfoldable pub find_of : List ℕ → ℕ → Found
find_of s number = record {
  refusal = find_refusal s number;
  table = cond (eqb (find_refusal s number).no 0) (table_at s (seek_of s number)) no_table;
}
