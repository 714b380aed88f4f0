-- A table in plain numbers, as it is lent and as it is given back: m, x, count, and three numbers a row.
use Rattle.std.specs.Prelude.{ℕ, ◌+◌, ◌*◌, List, [], ◌∷◌, get_or}
use Rattle.table_row.specs.declared.Row.{Row}
use Rattle.table.specs.declared.Table.{Table}
use Rattle.table_row.specs.Limits.{most_rows}
use Rattle.table_row.specs.Row.{row_by}
use Rattle.table.specs.Rows.{beside, table_by, rows_by}

-- row i of a table's numbers: T, C and D of each row in turn, after m, x and the count
unfoldable pub lent_row : List ℕ → ℕ → Row
lent_row l i = row_by (λ k. get_or l (3 + 3 * i + k) 0)

-- the first k rows
abbrev pub lent_rows : List ℕ → ℕ → List Row
lent_rows l = rows_by (lent_row l)

-- the table of these numbers: each number as it is, and "room for 32 rows"
unfoldable pub lent_table : List ℕ → Table
lent_table l = table_by (beside (get_or l 0 0) (get_or l 1 0)) (get_or l 2 0) (lent_rows l most_rows)

-- three numbers of each member of a list in turn
unfoldable pub threes : {A : Type 0} → (A → ℕ) → (A → ℕ) → (A → ℕ) → List A → List ℕ
threes f g h [] = []
threes f g h (a ∷ l) = f a ∷ g a ∷ h a ∷ threes f g h l

-- the numbers of a table
unfoldable pub numbers_of : Table → List ℕ
numbers_of t =
    t.processors ∷ t.depth ∷ t.count ∷ threes (λ r. r.period) (λ r. r.execution) (λ r. r.deadline) t.rows
