-- Where each row stands in a result: the rows in order, and zeros past the count.
use mathlib.Core.Path.{◌≡◌, refl, ap, ◌∙◌}
use mathlib.Core.List.{List, [], ◌∷◌, ◌++◌}
use Prim.Native.Nat.{ℕ, zero, suc, ◌+◌, ◌-◌, ◌≤◌, ◌<◌}
use native.Mathlib.Omega.{arith}
use lib.ListN.{length, get_or, take, drop, replicate, get_or-append}
use lib.Seq.{get_or-append-add, get_or-take, get_or-drop, get_or_at, length-take-le}
use Rattle.table_row.specs.declared.Row.{Row}
use Rattle.table.specs.declared.Table.{Table}
use Rattle.table_row.specs.Limits.{most_rows}
use Rattle.table_row.specs.Row.{no_row}
use Rattle.table.specs.Rows.{row_at}
use Rattle.table_edit.specs.Edit.{rows_of, with_rows, added, removed}
use Rattle.table_edit.proofs.Rows.{length_rows, length_added, length_removed}

zeros_at : (n i : ℕ) → get_or (replicate n no_row) i no_row ≡ no_row
zeros_at zero i = refl
zeros_at (suc n) zero = refl
zeros_at (suc n) (suc i) = zeros_at n i

pub past_count : (t : Table) (l : List Row) (i : ℕ) → length l ≤ i → row_at (with_rows t l) i ≡ no_row
past_count t l i h =
    let e : i ≡ length l + (i - length l) = omega arith in
    ap (λ (k : ℕ). get_or (l ++ replicate (most_rows - length l) no_row) k no_row) e ∙ get_or-append-add l _ (i - length l) no_row
    ∙ zeros_at (most_rows - length l) (i - length l)

pub at_row : (t : Table) (l : List Row) (i : ℕ) → i < length l → row_at (with_rows t l) i ≡ get_or l i no_row
at_row t l i h = get_or-append l _ no_row i h

module _ (t : Table) (full : length t.rows ≡ most_rows) (few : t.count ≤ most_rows) where
  long : length (rows_of t) ≡ t.count
  long = length_rows t full few

  pub rows_at : (i : ℕ) → i < t.count → get_or (rows_of t) i no_row ≡ row_at t i
  rows_at i h = get_or-take t.count t.rows i no_row h

  pub count_added : (row : Row) → (added t row).count ≡ t.count + 1
  unfolding added
  count_added row = length_added t full row few

  -- "Adding puts a row at the end": the others stay
  pub add_before : (row : Row) (i : ℕ) → i < t.count → row_at (added t row) i ≡ row_at t i
  unfolding added
  add_before row i h =
      at_row t (rows_of t ++ row ∷ []) i (omega (arith, length_added t full row few))
      ∙ get_or-append (rows_of t) (row ∷ []) no_row i (omega (arith, long))
      ∙ rows_at i h

  pub add_last : (row : Row) → row_at (added t row) t.count ≡ row
  unfolding added
  add_last row =
      at_row t (rows_of t ++ row ∷ []) t.count (omega (arith, length_added t full row few))
      ∙ get_or_at (rows_of t) row [] no_row t.count long

  -- "Removing takes the row at an index and moves later rows up by one": the rows before it stay
  front : (index : ℕ) → index < t.count → length (take index (rows_of t)) ≡ index
  front index g = length-take-le index (rows_of t) (omega (arith, long))

  pub remove_before : (index i : ℕ) → index < t.count → i < index → row_at (removed t index) i ≡ row_at t i
  unfolding removed
  remove_before index i g h =
      at_row t (take index (rows_of t) ++ drop (suc index) (rows_of t)) i (omega (arith, length_removed t full index g few))
      ∙ get_or-append (take index (rows_of t)) _ no_row i (omega (arith, front index g))
      ∙ get_or-take index (rows_of t) i no_row h
      ∙ rows_at i (omega arith)

  pub remove_after : (index i : ℕ) → index ≤ i → i + 1 < t.count → row_at (removed t index) i ≡ row_at t (i + 1)
  unfolding removed
  remove_after index i h g =
      let e : i ≡ length (take index (rows_of t)) + (i - index) = omega (arith, front index (omega arith)) in
      let d : suc index + (i - index) ≡ i + 1 = omega arith in
      at_row t (take index (rows_of t) ++ drop (suc index) (rows_of t)) i (omega (arith, length_removed t full index (omega arith) few))
      ∙ ap (λ (k : ℕ). get_or (take index (rows_of t) ++ drop (suc index) (rows_of t)) k no_row) e
      ∙ get_or-append-add (take index (rows_of t)) (drop (suc index) (rows_of t)) (i - index) no_row
      ∙ get_or-drop (suc index) (rows_of t) (i - index) no_row
      ∙ ap (λ (k : ℕ). get_or (rows_of t) k no_row) d
      ∙ rows_at (i + 1) g
