-- A table that is given back can be lent again as it stands, and a lent table that is given back is as it was lent, number by number.
use mathlib.Core.Path.{◌≡◌, refl, sym, ap, ap₂, ◌∙◌}
use mathlib.Core.List.{List, [], ◌∷◌, ◌++◌}
use Prim.Native.Nat.{ℕ, zero, suc, ◌+◌, ◌*◌, ◌≤◌, ◌<◌}
use native.Mathlib.Omega.{arith}
use lib.ListN.{length, get_or, take}
use lib.Seq.{take_all, take-suc, take-add, drop-cons}
use Rattle.table_row.specs.declared.Row.{Row}
use Rattle.table.specs.declared.Table.{Table}
use Rattle.table_row.specs.Row.{no_row}
use Rattle.table.specs.Rows.{beside, table_by, rows_by}
use Rattle.c_numbers.specs.Lent.{lent_row, lent_rows, lent_table, threes, numbers_of}
use Rattle.c_numbers.proofs.Table.{T, C, D, past_head}
use Rattle.c_numbers.proofs.Threes.{first_at, second_at, third_at, threes_append}
use Rattle.table_row.specs.Limits.{most_rows}

-- the table of a table's numbers is that table
module _ (t : Table) (full : length t.rows ≡ most_rows) where
  row_again : (i : ℕ) → i < length t.rows → lent_row (numbers_of t) i ≡ get_or t.rows i no_row
  unfolding lent_row
  row_again i h =
      let a = past_head t (3 + 3 * i + 0) (3 * i) (omega arith) ∙ first_at T C D no_row t.rows i h in
      let b = past_head t (3 + 3 * i + 1) (3 * i + 1) (omega arith) ∙ second_at T C D no_row t.rows i h in
      let d = past_head t (3 + 3 * i + 2) (3 * i + 2) (omega arith) ∙ third_at T C D no_row t.rows i h in
      λ j. record { period = a j; execution = b j; deadline = d j }

  rows_again : (k : ℕ) → k ≤ length t.rows → lent_rows (numbers_of t) k ≡ take k t.rows
  unfolding rows_by
  rows_again zero h = refl
  rows_again (suc k) h =
      ap₂ (λ (a : List Row) (r : Row). a ++ (r ∷ [])) (rows_again k (omega arith)) (row_again k h)
      ∙ sym (take-suc t.rows k no_row h)

  pub lent_again : lent_table (numbers_of t) ≡ t
  unfolding lent_table numbers_of
  lent_again =
      ap (table_by (beside t.processors t.depth) t.count) (rows_again most_rows (omega arith) ∙ take_all most_rows t.rows (omega arith))

-- the numbers of the table of a list of numbers are that list
module _ (l : List ℕ) where
  three_more : (n : ℕ) → n + 3 ≤ length l → take (n + 3) l ≡ take n l ++ (get_or l (n + 0) 0 ∷ get_or l (n + 1) 0 ∷ get_or l (n + 2) 0 ∷ [])
  three_more n h =
      let a : n ≡ n + 0 = omega arith in
      let b : suc n ≡ n + 1 = omega arith in
      let d : suc (suc n) ≡ n + 2 = omega arith in
      let third = ap (λ (r : List ℕ). get_or l (suc n) 0 ∷ r) (drop-cons l (suc (suc n)) 0 (omega arith)) in
      let second = ap (λ (r : List ℕ). get_or l n 0 ∷ r) (drop-cons l (suc n) 0 (omega arith) ∙ third) in
      take-add n 3 l
      ∙ ap (λ (r : List ℕ). take n l ++ take 3 r) (drop-cons l n 0 (omega arith) ∙ second)
      ∙ (λ j. take n l ++ (get_or l (a j) 0 ∷ get_or l (b j) 0 ∷ get_or l (d j) 0 ∷ []))

  rows_lent : (k : ℕ) → 3 + 3 * k ≤ length l → take (3 + 3 * k) l ≡ get_or l 0 0 ∷ get_or l 1 0 ∷ get_or l 2 0 ∷ threes T C D (lent_rows l k)
  unfolding rows_by threes lent_row
  rows_lent zero h = three_more 0 h
  rows_lent (suc k) h =
      let e : 3 + 3 * suc k ≡ 3 + 3 * k + 3 = omega arith in
      let at = 3 + 3 * k in
      ap (λ (n : ℕ). take n l) e
      ∙ three_more (3 + 3 * k) (omega arith)
      ∙ ap (λ (r : List ℕ). r ++ (get_or l (at + 0) 0 ∷ get_or l (at + 1) 0 ∷ get_or l (at + 2) 0 ∷ [])) (rows_lent k (omega arith))
      ∙ ap (λ (r : List ℕ). get_or l 0 0 ∷ get_or l 1 0 ∷ get_or l 2 0 ∷ r) (sym (threes_append T C D no_row (lent_rows l k) (lent_row l k ∷ [])))

  pub numbers_again : length l ≡ 3 + 3 * most_rows → numbers_of (lent_table l) ≡ l
  unfolding numbers_of lent_table
  numbers_again full = sym (rows_lent most_rows (omega arith)) ∙ take_all (3 + 3 * most_rows) l (omega arith)
