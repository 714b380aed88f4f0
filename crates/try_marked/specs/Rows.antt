-- A table from the numbers of its rows.
use Rattle.std.specs.Prelude.{List, map, ℕ, get_or}
use Rattle.table_row.specs.declared.Row.{Row}
use Rattle.table.specs.declared.Table.{Table}
use Rattle.table_row.specs.Row.{row_by}
use Rattle.table.specs.Rows.{beside, in_room, table_by}

-- the row of T, C and D
abbrev pub row_from : List ℕ → Row
row_from l = row_by (λ j. get_or l j 0)

-- these rows, and zeros past them
abbrev pub table_from : ℕ → ℕ → ℕ → List (List ℕ) → Table
table_from m x n rows = table_by (beside m x) n (in_room (map row_from rows))
