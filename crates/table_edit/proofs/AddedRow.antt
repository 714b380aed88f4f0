-- A refusal 4 to 7 of an added row names that row: its number is the count of the given table.
use mathlib.Core.Path.{◌≡◌, refl, sym, ap, ◌∙◌}
use mathlib.Core.Bool.{Bool, true, false, cond}
use mathlib.Core.Logic.{⊎_elim}
use Prim.Native.Nat.{ℕ, zero, suc, ◌≤◌, ◌<◌}
use native.Mathlib.Nat.{le_of_dvd, le_refl, le_trans, eq-or-lt_of_le, le_of_suc-le-suc}
use native.Mathlib.Numerals.{add-one}
use native.Mathlib.Omega.{arith}
use lib.Dec.{ltb}
use lib.ListN.{length}
use borrow.Author.Tests.{ltb-true, le-ltb}
use Rattle.basics.proofs.Bools.{lt_or_ge, clash}
use Rattle.table_row.specs.declared.Row.{Row}
use Rattle.table.specs.declared.Table.{Table}
use Rattle.table_row.specs.Limits.{most_processors, most_depths, most_rows, most_slots}
use Rattle.basics.specs.Least.{least}
use Rattle.table.specs.Frame.{frame_of, over_at}
use Rattle.table.specs.Rows.{row_at, beside_of}
use Rattle.table_row.specs.Row.{row_refusal, faulty}
use Rattle.table.specs.Check.{Numbers, framed, refused, check_frame, check_each, check_rows, check_of}
use Rattle.basics.proofs.Least.{least_here}
use Rattle.table_row.proofs.Divisor.{multiple_pos, multiple_dvd_left}
use Rattle.table.proofs.Frame.{frame_pos, frame_suc}
use Rattle.table_row.proofs.Ranges.{InOrder}
use Rattle.table.proofs.Accepted.{Fine, rows_outcome}
use Rattle.table.proofs.Past.{check_rows_same}
use Rattle.table.proofs.Steps.{rows_each}
use Rattle.table_edit.specs.Edit.{added}
use Rattle.basics.proofs.Range.{inside_of}
use Rattle.table_edit.proofs.Places.{add_before, count_added}

-- a search that passes over the numbers below n ends at n
ends_at : (p : ℕ → Bool) (n : ℕ) → ((k : ℕ) → k < n → p k ≡ false) → least p (suc n) < suc n → least p (suc n) ≡ n
ends_at p n f h =
    ⊎_elim (λ g. clash (least_here p (suc n) h) (f (least p (suc n)) g)) (λ g. omega arith) (lt_or_ge (least p (suc n)) n)

module _ (n : ℕ) (row : ℕ → Row) (fine : (i : ℕ) → i < n → faulty (row i) ≡ false)
    (small : (i : ℕ) → i < n → ltb most_slots (frame_of (λ j. (row j).period) (suc i)) ≡ false) where
  frame_row : ((check_frame (suc n) row).refusal.no ≡ 0 → ⊥) → (check_frame (suc n) row).refusal.row ≡ n
  unfolding check_frame over_at
  frame_row f = go (ltb over (suc n)) refl f
    where
      over : ℕ
      over = least (λ i. ltb most_slots (frame_of (λ j. (row j).period) (suc i))) (suc n)

      go : (b : Bool) → ltb over (suc n) ≡ b
          → let a = cond b (refused 7 over) (framed (frame_of (λ j. (row j).period) (suc n))) in (a.refusal.no ≡ 0 → ⊥) → a.refusal.row ≡ n
      go true e f = ends_at (λ i. ltb most_slots (frame_of (λ j. (row j).period) (suc i))) n small (ltb-true _ _ e)
      go false e f = absurd (f refl)

  each_row : ((check_each (suc n) row).refusal.no ≡ 0 → ⊥) → (check_each (suc n) row).refusal.row ≡ n
  unfolding check_each
  each_row f = go (ltb first (suc n)) refl f
    where
      first : ℕ
      first = least (λ i. faulty (row i)) (suc n)

      go : (b : Bool) → ltb first (suc n) ≡ b
          → let a = cond b (refused (row_refusal (row first)) first) (check_frame (suc n) row) in (a.refusal.no ≡ 0 → ⊥) → a.refusal.row ≡ n
      go true e f = ends_at (λ i. faulty (row i)) n fine (ltb-true _ _ e)
      go false e f = frame_row f

-- the multiple only grows
frame_grows : (T : ℕ → ℕ) (n : ℕ) → ((i : ℕ) → i < n → 0 < T i) → (i : ℕ) → i ≤ n → frame_of T i ≤ frame_of T n
frame_grows T zero pos i h =
    let e : i ≡ 0 = omega arith in
    rw e (le_refl (frame_of T 0))
frame_grows T (suc n) pos i h =
    let low = frame_pos T n (λ j g. pos j (omega arith)) in
    let up : frame_of T n ≤ frame_of T (suc n) =
    rw (frame_suc T n) (le_of_dvd (multiple_pos (frame_of T n) (T n) low (pos n (omega arith))) (multiple_dvd_left (frame_of T n) (T n) low)) in
    ⊎_elim (λ e. rw e (le_refl (frame_of T (suc n)))) (λ g. le_trans (frame_grows T n (λ j l. pos j (omega arith)) i (le_of_suc-le-suc g)) up)
    (eq-or-lt_of_le h)

in_order_fine : (r : Row) → InOrder r → faulty r ≡ false
unfolding faulty row_refusal
in_order_fine r o =
    let period = inside_of 1 r.period most_slots o.period_low o.period_high in
    let deadline = inside_of 1 r.deadline r.period (omega (arith, o.execution_low, o.execution_high)) o.deadline_high in
    let execution = inside_of 1 r.execution r.deadline o.execution_low o.execution_high in
    rw (period, deadline, execution)

module _ (t : Table) (row : Row) (full : length t.rows ≡ most_rows) (given : (check_of t).refusal.no ≡ 0) (room : t.count < most_rows) where
  abbrev rows : ℕ → Row
  rows = row_at (added t row)

  -- the rows before the added one are the table's own, which are in order
  own_rows : Fine (beside_of t) t.count rows (check_rows (beside_of t) t.count rows)
  unfolding check_of
  own_rows =
      let same = check_rows_same t.count rows (row_at t) (add_before t full (omega arith) row) (beside_of t) in
      ⊎_elim (λ f. f) (λ r. absurd (omega (arith, r.number, given, ap (λ (a : Numbers). a.refusal.no) same)))
      (rows_outcome (beside_of t) t.count rows)

  small : (i : ℕ) → i < t.count → ltb most_slots (frame_of (λ j. (rows j).period) (suc i)) ≡ false
  small i h =
      let f = own_rows.rows in
      let up = frame_grows (λ j. (rows j).period) t.count (λ j g. (f.order j g).period_low) (suc i) h in
      le-ltb most_slots (frame_of (λ j. (rows j).period) (suc i)) (omega (arith, f.frame, f.frame_high))

  each_is : check_each (suc t.count) rows ≡ check_of (added t row)
  unfolding check_of added
  each_is =
      let n : (added t row).count ≡ suc t.count = count_added t full (omega arith) row ∙ add-one t.count in
      let f = own_rows in
      ap (λ (k : ℕ). check_each k rows) (sym n)
      ∙ rows_each (beside_of t) (added t row).count rows (inside_of 1 _ most_processors f.m_range.0 f.m_range.1)
      (inside_of 1 _ most_depths f.x_range.0 f.x_range.1)
      (rw n (inside_of 1 (suc t.count) most_rows (omega arith) room))

  pub added_row : ((check_of (added t row)).refusal.no ≡ 0 → ⊥) → (check_of (added t row)).refusal.row ≡ t.count
  added_row f =
      rw (← each_is) (each_row t.count rows (λ i h. in_order_fine (rows i) (own_rows.rows.order i h)) small (λ e. f (rw (← each_is) e)))
