-- Adding and removing a row.
use Rattle.std.specs.Prelude.{Result, Ok, Err, cond, List, [], ◌∷◌, ◌++◌, ℕ, suc, ltb, eqb, take, drop}
use Rattle.table_row.specs.declared.Row.{Row}
use Rattle.table.specs.declared.Table.{Table}
use Rattle.refusal.specs.Refusal.{Numbered, refuse, none}
use Rattle.table.specs.Rows.{beside_of, table_of}
use Rattle.table.specs.Check.{check_of}
use Rattle.refusal.specs.Order.{first}
use Rattle.refusal.specs.declared.Refusal.{Refusal}
use Rattle.refusal.specs.Told.{told}

-- the rows up to the count
abbrev pub rows_of : Table → List Row
rows_of t = take t.count t.rows

-- the table with these rows in place of its own: "Rows past the count never matter, and are all zeros in every table that is returned"
abbrev pub with_rows : Table → List Row → Table
with_rows t l = table_of (beside_of t) l

-- "Adding puts a row at the end."
unfoldable pub added : Table → Row → Table
added t row = with_rows t (rows_of t ++ row ∷ [])

-- "Removing takes the row at an index and moves later rows up by one."
unfoldable pub removed : Table → ℕ → Table
removed t index = with_rows t (take index (rows_of t) ++ drop (suc index) (rows_of t))

-- 18: "remove: no such row"
unfoldable pub no_such_row : Table → ℕ → Numbered
no_such_row t index = cond (ltb index t.count) none (refuse 18)

-- what an edit gives: a refusal, or none, and the table that comes back
pub record Edited : Type 0 where
  pub refusal : Numbered
  pub table : Table

-- the code's answer to an edit of t: the table, or a refusal, with which t stays as it came
abbrev pub edited_by : Table → Result Table Refusal → Edited
edited_by t (Ok u) = record { refusal = none; table = u }
edited_by t (Err r) = record { refusal = told r; table = t }

-- the result where there is no refusal, and else "the table they got"
unfoldable pub edited : Table → Numbered → Table → Edited
edited t r result = record { refusal = r; table = cond (eqb r.no 0) result t }

-- "Add and remove: the given table, then 18, then the resulting table"
unfoldable pub add_of : Table → Row → Edited
add_of t row = edited t (first (check_of t).refusal (check_of (added t row)).refusal) (added t row)

unfoldable pub remove_of : Table → ℕ → Edited
remove_of t index =
    edited t (first (check_of t).refusal (first (no_such_row t index) (check_of (removed t index)).refusal)) (removed t index)
