-- "Rows past the count never matter": tables that agree on the rows below the count get the same answer.
use mathlib.Core.Path.{◌≡◌, refl, ap, ap₂, ◌∙◌}
use mathlib.Core.Bool.{Bool, true, false, cond}
use Prim.Native.Nat.{ℕ, zero, suc, ◌<◌}
use native.Mathlib.Omega.{arith}
use lib.Dec.{ltb}
use borrow.Author.Tests.{ltb-true}
use Rattle.table_row.specs.declared.Row.{Row}
use Rattle.table.specs.declared.Table.{Table}
use Rattle.table.specs.declared.Beside.{Beside}
use Rattle.table_row.specs.Limits.{most_slots}
use Rattle.table_row.specs.Divisor.{multiple}
use Rattle.basics.specs.Least.{least}
use Rattle.basics.proofs.Least.{least_ext}
use Rattle.table.specs.Frame.{frame_of, over_at}
use Rattle.table.specs.Rows.{row_at, beside_of, Alike}
use Rattle.table_row.specs.Row.{row_refusal, faulty}
use Rattle.table.specs.Check.{Numbers, framed, refused, check_frame, check_each, check_rows, check_of}
use Rattle.table.specs.Seen.{ranges}

frame_ext : (n : ℕ) {T U : ℕ → ℕ} → ((i : ℕ) → i < n → T i ≡ U i) → frame_of T n ≡ frame_of U n
unfolding frame_of
frame_ext zero f = refl
frame_ext (suc n) f = ap₂ multiple (frame_ext n (λ i h. f i (omega arith))) (f n (omega arith))

module _ (n : ℕ) (row sow : ℕ → Row) (same : (i : ℕ) → i < n → row i ≡ sow i) where
  period_same : (i : ℕ) → i < n → (row i).period ≡ (sow i).period
  period_same i h = ap (λ (r : Row). r.period) (same i h)

  over_same : over_at (λ i. (row i).period) n ≡ over_at (λ i. (sow i).period) n
  unfolding over_at
  over_same = least_ext n (λ j h. ap (ltb most_slots) (frame_ext (suc j) (λ i g. period_same i (omega arith))))

  check_frame_same : check_frame n row ≡ check_frame n sow
  unfolding check_frame
  check_frame_same =
      ap₂ (λ (o f : ℕ). cond (ltb o n) (refused 7 o) (framed f)) over_same (frame_ext n period_same)

  first_same : least (λ i. faulty (row i)) n ≡ least (λ i. faulty (sow i)) n
  first_same = least_ext n (λ j h. ap faulty (same j h))

  check_each_same : check_each n row ≡ check_each n sow
  unfolding check_each
  check_each_same =
      go (ltb (least (λ i. faulty (row i)) n) n) refl
      ∙ ap₂ (λ (b : ℕ) (a : Numbers). cond (ltb b n) (refused (row_refusal (sow b)) b) a) first_same check_frame_same
    where
      first : ℕ
      first = least (λ i. faulty (row i)) n

      go : (b : Bool) → ltb first n ≡ b
          → cond b (refused (row_refusal (row first)) first) (check_frame n row) ≡ cond b (refused (row_refusal (sow first)) first) (check_frame n row)
      go true e = ap (λ (r : Row). refused (row_refusal r) first) (same first (ltb-true _ _ e))
      go false e = refl

  pub check_rows_same : (b : Beside) → check_rows b n row ≡ check_rows b n sow
  unfolding check_rows ranges
  check_rows_same b = ap (ranges b n) check_each_same

pub past_the_count : (t u : Table) → Alike t u → check_of t ≡ check_of u
unfolding check_of
past_the_count t u a =
    check_rows_same t.count (row_at t) (row_at u) a.rows (beside_of t)
    ∙ ap₂ (λ (b : Beside) (n : ℕ). check_rows b n (row_at u)) a.beside a.count
