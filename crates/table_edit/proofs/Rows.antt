-- What the writes to the room for rows come to: the kept rows in order, and zeros after them.
use mathlib.Core.Path.{◌≡◌, sym, ap, ap₂, ◌∙◌}
use mathlib.Core.List.{List, [], ◌∷◌, ◌++◌, append-nil}
use Rattle.std.proofs.Common.{append_assoc}
use Prim.Native.Nat.{ℕ, zero, suc, ◌+◌, ◌-◌, ◌≤◌, ◌<◌}
use native.Mathlib.Nat.{zero-add, sub-zero, zero-sub, suc-sub-suc}
use native.Mathlib.Numerals.{add-one}
use native.Mathlib.Omega.{arith}
use borrow.Rule.Slice.PartMut.{put_mid, post_of, same_len_mid}
use lib.ListN.{length, set, take, drop, replicate, drop_of_length-le, length-append, length-drop, length-set}
use lib.Seq.{paste, length-take-le, take_at, set_at, append_snoc, take-take}
use Rattle.std.proofs.lemmas.List.{drop-take, take_more_set, take_rest}
use Rattle.table_row.specs.declared.Row.{Row}
use Rattle.table.specs.declared.Table.{Table}
use Rattle.table_row.specs.Limits.{most_rows}
use Rattle.table_row.specs.Row.{no_row}
use Rattle.table.specs.Rows.{beside_of, table_by}
use Rattle.table_edit.specs.Edit.{rows_of, with_rows, added, removed}

abbrev zeros : ℕ → List Row
zeros n = replicate n no_row

drop_zeros : (i n : ℕ) → drop i (zeros n) ≡ zeros (n - i)
drop_zeros zero n = rw (sub-zero n)
drop_zeros (suc i) zero = rw (zero-sub (suc i))
drop_zeros (suc i) (suc n) = rw (suc-sub-suc n i) (drop_zeros i n)

-- a row stored behind l, where zeros stood
behind : (l : List Row) (row : Row) (n w : ℕ) → length l ≡ n → n < w → set (l ++ drop n (zeros w)) n row ≡ (l ++ row ∷ []) ++ zeros (w - (n + 1))
behind l row n w e h =
    let one : w - n ≡ suc (w - (n + 1)) = omega arith in
    ap (λ (z : List Row). set (l ++ z) n row) (drop_zeros n w ∙ ap zeros one)
    ∙ set_at l no_row (zeros (w - (n + 1))) row n e
    ∙ sym (append_snoc l row (zeros (w - (n + 1))))

-- the places from n on are filled
cleared : (l zs : List Row) (n : ℕ) (z : Row) → length l ≡ most_rows → n ≤ most_rows → z ≡ no_row
    → zs ≡ replicate (length (take (length l - n) (drop n l))) z → put_mid n (length l - n) l zs ≡ take n l ++ zeros (most_rows - n)
cleared l zs n z full few e f =
    let left : length (drop n l) ≡ most_rows - n = omega (arith, length-drop n l) in
    let none : length (drop n l) ≤ length l - n = omega (arith, length-drop n l) in
    ap (λ (k : List Row). take n l ++ k)
    (ap₂ (λ (x y : List Row). x ++ y) f (drop_of_length-le (drop n l) none)
    ∙ append-nil _
    ∙ ap₂ (λ (k : ℕ) (r : Row). replicate k r) (ap length (take_rest l n) ∙ left) e)

module _ (t : Table) (full : length t.rows ≡ most_rows) where
  pub length_rows : t.count ≤ most_rows → length (rows_of t) ≡ t.count
  length_rows h = length-take-le t.count t.rows (omega arith)

  -- rows that are those of `l` with zeros after them make the table with the rows `l`
  table_of : (l rows : List Row) (n : ℕ) → length l ≡ n → rows ≡ l ++ zeros (most_rows - n) → table_by (beside_of t) n rows ≡ with_rows t l
  table_of l rows n p q = rw (q, ← p)

  pub length_added : (row : Row) → t.count ≤ most_rows → length (rows_of t ++ row ∷ []) ≡ t.count + 1
  length_added row h = omega (arith, length-append (rows_of t) (row ∷ []), length_rows h)

  -- the row is stored behind a copy of the rows, in room that held zeros
  behind_rows : (row : Row) → t.count < most_rows
      → set (paste (zeros most_rows) 0 (drop 0 t.rows) t.count) t.count row ≡ (rows_of t ++ row ∷ []) ++ zeros (most_rows - (t.count + 1))
  behind_rows row h =
      ap (λ (k : ℕ). set (rows_of t ++ drop k (zeros most_rows)) t.count row) (zero-add t.count)
      ∙ behind (rows_of t) row t.count most_rows (length_rows (omega arith)) h

  pub with_row : (row : Row) (z kept : List Row) (n : ℕ) → t.count < most_rows → n ≡ t.count → z ≡ zeros most_rows → kept ≡ paste z 0 (drop 0 t.rows) n
      → table_by (beside_of t) (t.count + 1) (set kept n row) ≡ added t row
  unfolding added
  with_row row z kept n h p q r =
      table_of (rows_of t ++ row ∷ []) _ (t.count + 1) (length_added row (omega arith))
      (rw (r, q, p) (behind_rows row h))

  -- the row is stored behind the others in their own room, and the places past it are filled
  pub row_put : (row z : Row) (l zs : List Row) → let n = t.count + 1 in
      t.count < most_rows → z ≡ no_row → zs ≡ replicate (length (take (length l - n) (drop n l))) z → l ≡ set t.rows t.count row
      → table_by (beside_of t) n (put_mid n (length l - n) l zs) ≡ added t row
  unfolding added
  row_put row z l zs h e f p =
      let long = ap length p ∙ length-set t.rows t.count row ∙ full in
      table_of (rows_of t ++ row ∷ []) _ (t.count + 1) (length_added row (omega arith))
      (cleared l zs (t.count + 1) z long (omega arith) e f
      ∙ ap (λ (k : List Row). k ++ zeros (most_rows - (t.count + 1)))
      (ap (take (t.count + 1)) p ∙ take_more_set t.rows t.count row (omega arith)))

  pub length_removed : (i : ℕ) → i < t.count → t.count ≤ most_rows → length (take i (rows_of t) ++ drop (suc i) (rows_of t)) ≡ t.count - 1
  length_removed i h g =
      let all = length_rows g in
      let before = length-take-le i (rows_of t) (omega arith) in
      omega (arith, length-append (take i (rows_of t)) (drop (suc i) (rows_of t)), length-drop (suc i) (rows_of t))

  -- the rows after the index move up by one
  moved : (i : ℕ) (x post : List Row) → i < t.count → t.count ≤ most_rows → x ≡ take (t.count - (i + 1)) (drop (i + 1) t.rows)
      → take (t.count - 1) (take i t.rows ++ (x ++ post)) ≡ take i (rows_of t) ++ drop (suc i) (rows_of t)
  moved i x post h g e =
      let rest : i + 1 + (t.count - (i + 1)) ≡ t.count = omega arith in
      let front : take i t.rows ≡ take i (rows_of t) = sym (take-take i t.count t.rows (omega arith)) in
      let later : take (t.count - (i + 1)) (drop (i + 1) t.rows) ≡ drop (suc i) (rows_of t) =
      sym (drop-take (i + 1) (t.count - (i + 1)) t.rows) ∙ ap₂ (λ (k n : ℕ). drop k (take n t.rows)) (add-one i) rest in
      let both = ap₂ (λ (x y : List Row). x ++ y) front (e ∙ later) in
      ap (take (t.count - 1)) (sym (append_assoc (take i t.rows) x post))
      ∙ take_at (take i t.rows ++ x) post (t.count - 1) (ap length both ∙ length_removed i h g)
      ∙ both

  pub without_row : (i k : ℕ) (x zs : List Row) (z : Row) → let n = t.count - 1 in let l = put_mid i k t.rows x in
      i < t.count → t.count ≤ most_rows → length x ≡ length (take k (drop i t.rows)) → x ≡ take (t.count - (i + 1)) (drop (i + 1) t.rows) → z ≡ no_row
      → zs ≡ replicate (length (take (length l - n) (drop n l))) z → table_by (beside_of t) n (put_mid n (length l - n) l zs) ≡ removed t i
  unfolding removed
  without_row i k x zs z h g long m e f =
      table_of (take i (rows_of t) ++ drop (suc i) (rows_of t)) _ (t.count - 1) (length_removed i h g)
      (cleared (put_mid i k t.rows x) zs (t.count - 1) z (same_len_mid i k t.rows x long ∙ full) (omega arith) e f
      ∙ ap (λ (k : List Row). k ++ zeros (most_rows - (t.count - 1))) (moved i x (post_of i k t.rows) h g m))
