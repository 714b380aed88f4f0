-- "Rows past the count [..] are all zeros in every table that is returned": the one that find gives, found or not.
use mathlib.Core.Path.{◌≡◌, ap, ◌∙◌}
use mathlib.Core.Bool.{Bool, true, false, cond}
use Prim.Native.Nat.{ℕ, ◌+◌, ◌-◌, ◌≤◌, ◌<◌, min}
use native.Mathlib.Decide.{dec_lt}
use native.Mathlib.Omega.{arith}
use mathlib.Core.List.{List, ◌++◌}
use lib.ListN.{length, get_or, replicate, length-replicate, get_or-replicate, get_or-eq_default}
use lib.Seq.{get_or-append-add}
use lib.Dec.{eqb}
use Rattle.table_row.specs.declared.Row.{Row}
use Rattle.table.specs.declared.Table.{Table}
use Rattle.table_row.specs.Limits.{most_rows}
use Rattle.table_row.specs.Row.{no_row}
use Rattle.table.specs.Rows.{row_at, rows_by, room_by, no_table}
use Rattle.file_bodies.specs.Layout.{count_in}
use Rattle.file_bodies.specs.Body.{row_of, body_table, table_at}
use Rattle.table.proofs.RowsBy.{length_rows}
use Rattle.file_check.specs.Find.{find_refusal, find_of}

no_rows : (n i : ℕ) → get_or (replicate n no_row) i no_row ≡ no_row
no_rows n i = go (dec_lt i n)
  where
    go : Dec (i < n) → get_or (replicate n no_row) i no_row ≡ no_row
    go (yes h) = get_or-replicate n i no_row no_row h
    go (no h) = get_or-eq_default (replicate n no_row) no_row {n = i} (omega (arith, length-replicate n no_row))

past_rows : (rs : List Row) (n i : ℕ) → length rs ≤ i → get_or (rs ++ replicate n no_row) i no_row ≡ no_row
past_rows rs n i h =
    let e : i ≡ length rs + (i - length rs) = omega arith in
    ap (λ (j : ℕ). get_or (rs ++ replicate n no_row) j no_row) e
    ∙ get_or-append-add rs (replicate n no_row) (i - length rs) no_row
    ∙ no_rows n (i - length rs)

-- what holds of a table with zeros past its count
abbrev pub Zeros : Table → Type 0
Zeros t = (i : ℕ) → t.count ≤ i → row_at t i ≡ no_row

table_zeros : (b : List ℕ) → Zeros (body_table b)
unfolding body_table room_by
table_zeros b i h =
    let c = min (count_in b) most_rows in
    past_rows (rows_by (row_of b) c) (most_rows - c) i (omega (arith, length_rows (row_of b) c))

pub find_zeros : (s : List ℕ) (number : ℕ) → Zeros (find_of s number).table
unfolding find_of table_at
find_zeros s number = go (eqb (find_refusal s number).no 0) _
  where
    go : (b : Bool) (body : List ℕ) → Zeros (cond b (body_table body) no_table)
    go true body = table_zeros body
    go false body = λ i h. no_rows most_rows i
