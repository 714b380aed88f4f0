-- How a loop reads rows one after another into the room of a table.
use mathlib.Core.Path.{◌≡◌, refl, sym, ap, ◌∙◌}
use mathlib.Core.List.{[], ◌∷◌, ◌++◌, append_assoc, append-nil}
use Prim.Native.Nat.{ℕ, zero, suc, ◌+◌, ◌-◌, ◌<◌}
use native.Mathlib.Nat.{add-zero, add-suc, le_of_eq}
use native.Mathlib.Numerals.{add-one}
use native.Mathlib.Omega.{arith}
use lib.ListN.{length, set, replicate, take, length-append}
use lib.Seq.{set_at, take_all, take-append-le}
use Rattle.table_row.specs.declared.Row.{Row}
use Rattle.table_row.specs.Row.{no_row}
use Rattle.table.specs.Rows.{rows_by, room_by}
use Rattle.table_row.specs.Limits.{most_rows}

module _ (f : ℕ → Row) where
  pub length_rows : (k : ℕ) → length (rows_by f k) ≡ k
  unfolding rows_by
  length_rows zero = refl
  length_rows (suc k) = simp (length-append, length_rows k) (omega arith)

  -- the first k rows of more are the first k rows
  pub take_rows : (k j : ℕ) → take k (rows_by f (k + j)) ≡ rows_by f k
  unfolding rows_by
  take_rows k zero = ap (λ (n : ℕ). take k (rows_by f n)) (add-zero k) ∙ take_all k (rows_by f k) (le_of_eq (length_rows k))
  take_rows k (suc j) =
      ap (λ (n : ℕ). take k (rows_by f n)) (add-suc k j)
      ∙ take-append-le k (rows_by f (k + j)) _ (omega (arith, length_rows (k + j)))
      ∙ take_rows k j

  pub room_none : replicate most_rows no_row ≡ room_by f 0
  unfolding room_by rows_by
  room_none =
      let all : most_rows ≡ most_rows - 0 = omega arith in
      ap (λ (n : ℕ). replicate n no_row) all

  -- one row more is stored
  pub room_more : (i : ℕ) → i < most_rows → set (room_by f i) i (f i) ≡ room_by f (i + 1)
  unfolding room_by rows_by
  room_more i h =
      let left : most_rows - i ≡ suc (most_rows - suc i) = omega arith in
      ap (λ (n : ℕ). set (rows_by f i ++ replicate n no_row) i (f i)) left
      ∙ set_at (rows_by f i) no_row (replicate (most_rows - suc i) no_row) (f i) i (length_rows i)
      ∙ sym (append_assoc (rows_by f i) (f i ∷ []) (replicate (most_rows - suc i) no_row))
      ∙ ap (room_by f) (sym (add-one i))

  pub room_all : room_by f most_rows ≡ rows_by f most_rows
  unfolding room_by
  room_all =
      let none : most_rows - most_rows ≡ 0 = omega arith in
      ap (λ (n : ℕ). rows_by f most_rows ++ replicate n no_row) none ∙ append-nil (rows_by f most_rows)
