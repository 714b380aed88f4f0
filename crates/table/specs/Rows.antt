-- Rows, what stands beside them, and tables made of both.
use Rattle.std.specs.Prelude.{◌≡◌, ℕ, zero, suc, ◌-◌, ◌<◌, List, [], ◌∷◌, ◌++◌, length, get_or, replicate}
use Rattle.table_row.specs.declared.Row.{Row}
use Rattle.table.specs.declared.Table.{Table}
use Rattle.table.specs.declared.Beside.{Beside}
use Rattle.table_row.specs.Row.{no_row}
use Rattle.table_row.specs.Limits.{most_rows}

-- "Rows are numbered from 0"
abbrev pub row_at : Table → ℕ → Row
row_at t i = get_or t.rows i no_row

-- what stands beside the rows: "processors m, depth x"
abbrev pub beside : ℕ → ℕ → Beside
beside m x = record { processors = m; depth = x }

abbrev pub beside_of : Table → Beside
beside_of t = beside t.processors t.depth

-- "A table is a value: processors m, depth x, a row count, and room for 32 rows"
abbrev pub table_by : Beside → ℕ → List Row → Table
table_by a n rows = record { processors = a.processors; depth = a.depth; count = n; rows = rows }

-- "room for 32 rows": these rows, and zeros past them
abbrev pub in_room : List Row → List Row
in_room l = l ++ replicate (most_rows - length l) no_row

-- the table of these rows, with zeros past them
abbrev pub table_of : Beside → List Row → Table
table_of a l = table_by a (length l) (in_room l)

-- the room for rows, with zeros in it
abbrev pub no_rows : List Row
no_rows = replicate most_rows no_row

-- a table of zeros
abbrev pub no_table : Table
no_table = table_by (beside 0 0) 0 no_rows

-- the first k of the rows f 0, f 1, ..
unfoldable pub rows_by : (ℕ → Row) → ℕ → List Row
rows_by f zero = []
rows_by f (suc k) = rows_by f k ++ (f k ∷ [])

-- these in the room for rows, and zeros past them
unfoldable pub room_by : (ℕ → Row) → ℕ → List Row
room_by f k = rows_by f k ++ replicate (most_rows - k) no_row

-- tables that differ at the most in rows past the count
pub record Alike (t u : Table) : Type 0 where
  pub beside : beside_of t ≡ beside_of u
  pub count : t.count ≡ u.count
  pub rows : (i : ℕ) → i < t.count → row_at t i ≡ row_at u i
