-- Find over a list of entries, and a table as find gives it.
use Rattle.std.specs.Prelude.{cond, ℕ, ◌-◌, List, [], ◌∷◌, ◌++◌, take, replicate, eqb}
use Rattle.table.specs.declared.Table.{Table}
use Rattle.refusal.specs.Refusal.{refuse, none}
use Rattle.table_row.specs.Limits.{most_rows}
use Rattle.table_row.specs.Row.{no_row}
use Rattle.table.specs.Rows.{beside_of, table_by, no_table}
use Rattle.file_kinds.specs.Kinds.{kind_of, is_table}
use Rattle.file_contents.specs.File.{Entry}
use Rattle.file_bodies.specs.Body.{body_table}
use Rattle.file_check.specs.Find.{Found}

abbrev pub found : Table → Found
found t = record { refusal = none; table = t }

-- 17: "no table has the number"
abbrev pub lost : Found
lost = record { refusal = refuse 17; table = no_table }

-- the table of the first entry that has the number
unfoldable pub find_in : List Entry → ℕ → Found
find_in [] number = lost
find_in (e ∷ es) number = cond (eqb e.number number) (cond (is_table (kind_of e.kind)) (found (body_table e.body)) lost) (find_in es number)

-- "Rows past the count never matter, and are all zeros in every table that is returned"
abbrev pub cleared : Table → Table
cleared t = table_by (beside_of t) t.count (take t.count t.rows ++ replicate (most_rows - t.count) no_row)
