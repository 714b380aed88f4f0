-- The check of a table: "Order for a table: 1, 2, 3, then rows upward, in each 4, 5, 6; then 7."
use Rattle.std.specs.Prelude.{Result, Ok, Err, cond, ℕ, ltb}
use Rattle.table_row.specs.declared.Row.{Row}
use Rattle.table.specs.declared.Table.{Table}
use Rattle.table.specs.declared.Beside.{Beside}
use Rattle.refusal.specs.declared.Refusal.{Refusal}
use Rattle.refusal.specs.Refusal.{Numbered, in_row, none}
use Rattle.refusal.specs.Told.{told}
use Rattle.basics.specs.Least.{least}
use Rattle.basics.specs.Range.{inside}
use Rattle.table_row.specs.Row.{row_refusal, faulty}
use Rattle.table_row.specs.Limits.{most_processors, most_depths, most_rows}
use Rattle.table.specs.Frame.{frame_of, over_at}
use Rattle.table.specs.Rows.{row_at, beside_of}

-- the numbers of an answer: "A check that accepts gives H", and "All other numbers of a refused answer are 0"
pub record Numbers : Type 0 where
  pub refusal : Numbered
  pub frame : ℕ

-- an answer with a frame, and one with a refusal
abbrev pub framed : ℕ → Numbers
framed h = record { refusal = none; frame = h }

abbrev pub refused_by : Numbered → Numbers
refused_by r = record { refusal = r; frame = 0 }

-- this paper's numbers for each case of the answer
abbrev pub numbers : Result ℕ Refusal → Numbers
numbers (Ok h) = framed h
numbers (Err r) = refused_by (told r)

abbrev pub refused : ℕ → ℕ → Numbers
refused k row = refused_by (in_row k row)

-- 7: "the row is the first whose period takes the multiple of the rows so far over it"
unfoldable pub check_frame : ℕ → (ℕ → Row) → Numbers
check_frame n row =
    let over = over_at (λ i. (row i).period) n in
    cond (ltb over n) (refused 7 over) (framed (frame_of (λ i. (row i).period) n))

-- "then rows upward, in each 4, 5, 6; then 7"
unfoldable pub check_each : ℕ → (ℕ → Row) → Numbers
check_each n row =
    let first = least (λ i. faulty (row i)) n in
    cond (ltb first n) (refused (row_refusal (row first)) first) (check_frame n row)

-- "m is 1 to 16, x is 1 to 8, the count 1 to 32": n rows, with m and x beside them
unfoldable pub check_rows : Beside → ℕ → (ℕ → Row) → Numbers
check_rows a n row =
    cond (inside 1 a.processors most_processors)
    (cond (inside 1 a.depth most_depths)
    (cond (inside 1 n most_rows) (check_each n row) (refused 3 0))
    (refused 2 0))
    (refused 1 0)

-- "Rows past the count never matter"
unfoldable pub check_of : Table → Numbers
check_of t = check_rows (beside_of t) t.count (row_at t)

-- 1 to 7 of a table, or none
abbrev pub table_refusal : Table → Numbered
table_refusal t = (check_of t).refusal
