-- What a row that is in order is.
use mathlib.Core.Path.{◌≡◌, refl}
use mathlib.Core.Bool.{Bool, true, false, cond}
use Prim.Native.Nat.{ℕ, ◌≤◌, ◌<◌}
use native.Mathlib.Omega.{arith}
use borrow.Author.Tests.{eqb-true, not-false}
use Rattle.table_row.specs.declared.Row.{Row}
use Rattle.basics.specs.Least.{least}
use Rattle.table_row.specs.Row.{row_refusal, faulty}
use Rattle.basics.specs.Range.{inside}
use Rattle.basics.proofs.Least.{least_below}
use Rattle.table_row.specs.Limits.{most_slots}
use Rattle.basics.proofs.Range.{inside_true}

pub record InOrder (r : Row) : Type 0 where
  pub period_low : 1 ≤ r.period
  pub period_high : r.period ≤ most_slots
  pub deadline_high : r.deadline ≤ r.period
  pub execution_low : 1 ≤ r.execution
  pub execution_high : r.execution ≤ r.deadline

pub in_order : (r : Row) → row_refusal r ≡ 0 → InOrder r
unfolding row_refusal
in_order r e = go (inside 1 r.period most_slots) (inside 1 r.deadline r.period) (inside 1 r.execution r.deadline) refl refl refl e
  where
    go : (a b d : Bool) → inside 1 r.period most_slots ≡ a → inside 1 r.deadline r.period ≡ b → inside 1 r.execution r.deadline ≡ d
        → ◌≡◌ {A = ℕ} (cond a (cond b (cond d 0 6) 5) 4) 0 → InOrder r
    go true true true p q s e =
        let u = inside_true _ _ _ p in
        let v = inside_true _ _ _ q in
        let w = inside_true _ _ _ s in
        record { period_low = u.0; period_high = u.1; deadline_high = v.1; execution_low = w.0; execution_high = w.1 }
    go true true false p q s e = absurd (omega arith)
    go true false d p q s e = absurd (omega arith)
    go false b d p q s e = absurd (omega arith)

-- the rows before the first faulty one are in order
pub rows_in_order : (n : ℕ) (row : ℕ → Row) → n ≤ least (λ i. faulty (row i)) n → (i : ℕ) → i < n → InOrder (row i)
unfolding faulty
rows_in_order n row h i l = in_order (row i) (eqb-true _ _ (not-false _ (least_below (λ i. faulty (row i)) n i (omega arith))))
