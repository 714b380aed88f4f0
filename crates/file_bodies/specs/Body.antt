-- The table that a body holds, and the body that a table has.
use Rattle.std.specs.Prelude.{ℕ, min, List, [], ◌∷◌, ◌++◌, take}
use Rattle.table_row.specs.declared.Row.{Row}
use Rattle.table.specs.declared.Table.{Table}
use Rattle.table_row.specs.Limits.{most_rows}
use Rattle.table_row.specs.Row.{row_by, fields_of}
use Rattle.table.specs.Rows.{room_by, beside, table_by}
use Rattle.file_bytes.specs.Number.{at16, bytes16}
use Rattle.file_entries.specs.Entries.{body_at}
use Rattle.file_bodies.specs.Layout.{field_place, processors_in, depth_in, count_in}

-- row i of the body b
unfoldable pub row_of : List ℕ → ℕ → Row
row_of b i = row_by (λ k. at16 b (field_place i k))

-- the table of the body b: "Rows past the count [..] are all zeros in every table that is returned"
unfoldable pub body_table : List ℕ → Table
body_table b = table_by (beside (processors_in b) (depth_in b)) (count_in b) (room_by (row_of b) (min (count_in b) most_rows))

-- the table in entry i of the file s
unfoldable pub table_at : List ℕ → ℕ → Table
table_at s i = body_table (body_at s i)

-- "2 bytes each"
unfoldable pub fields_bytes : List ℕ → List ℕ
fields_bytes [] = []
fields_bytes (x ∷ xs) = bytes16 x ++ fields_bytes xs

unfoldable pub row_bytes : Row → List ℕ
row_bytes r = fields_bytes (fields_of r)

unfoldable pub rows_bytes : List Row → List ℕ
rows_bytes [] = []
rows_bytes (r ∷ rs) = row_bytes r ++ rows_bytes rs

-- the body of the table t
unfoldable pub table_bytes : Table → List ℕ
table_bytes t = t.processors ∷ t.depth ∷ t.count ∷ 0 ∷ rows_bytes (take t.count t.rows)
