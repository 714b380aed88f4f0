-- A job more is due after slot k exactly when a window ends with it: how the work due grows from one length to the next.
use mathlib.Core.Path.{◌≡◌, refl, ap, ◌∙◌}
use mathlib.Core.Bool.{Bool, true, false}
use Prim.Native.Nat.{ℕ, zero, suc, ◌+◌, ◌-◌, ◌*◌, ◌/◌, ◌%◌, ◌≤◌, ◌<◌}
use native.Mathlib.Nat.{suc-mul, mul-add, mul-zero, one-mul, mul-le-mul_right, div-add-mod'}
use native.Mathlib.Omega.{arith}
use lib.Arith.{digits_mod}
use lib.Dec.{eqb}
use borrow.Author.Tests.{lt-leb, eqb-true, eqb-false}
use Rattle.basics.specs.Sum.{sum, bit}
use Rattle.model.specs.Model.{Model, Sound}
use Rattle.model.specs.Work.{jobs_due, work_due}
use Rattle.basics.proofs.Sums.{sum_eq, sum_add, sum_zero}
use Rattle.model.proofs.Frames.{jobs_count}
use Rattle.judge_first.proofs.Sequential.{row_of, Sequential}
use Rattle.judge_scan.specs.Dues.{falling}

-- a number that has all below another is no less
at_least : (a b : ℕ) → ((j : ℕ) → j < a → j < b) → a ≤ b
at_least zero b f = omega arith
at_least (suc a) b f = f a (omega arith)

at_most : {a b : ℕ} → (a < b → ⊥) → b ≤ a
at_most {a} {b} f = grind (arith, f)

module _ (M : Model) (G : Sound M) (i k : ℕ) (l : i < M.rows) where
  abbrev T : ℕ
  T = M.period i

  abbrev D : ℕ
  D = M.deadline i

  -- the window of job k / T ends with slot k
  ends : k % T ≡ D - 1 → jobs_due M i (k + 1) ≡ jobs_due M i k + 1
  ends e =
      let q : ℕ = k / T in
      let some : 0 < D = omega (arith, G.some i l, G.room i l) in
      let at : q * T + D ≡ k + 1 = omega (arith, div-add-mod' k T) in
      let now-more : q < jobs_due M i (k + 1) = (jobs_count M G i q (k + 1) l).1 (omega arith) in
      let now-less : jobs_due M i (k + 1) ≤ suc q = at_most (λ (h : suc q < jobs_due M i (k + 1)). omega (arith, (jobs_count M G i (suc q) (k + 1) l).0 h, suc-mul q T, G.apart i l)) in
      let then_less : jobs_due M i k ≤ q = at_most (λ (h : q < jobs_due M i k). omega (arith, (jobs_count M G i q k l).0 h)) in
      let then-more : q ≤ jobs_due M i k = at_least q (jobs_due M i k) (λ j b. (jobs_count M G i j k l).1 (omega (arith, mul-le-mul_right T b, suc-mul j T, G.apart i l))) in
      omega arith

  -- no window does
  goes_on : (k % T ≡ D - 1 → ⊥) → jobs_due M i (k + 1) ≡ jobs_due M i k + 0
  goes_on e =
      let some : 0 < D = omega (arith, G.some i l, G.room i l) in
      let more : jobs_due M i k ≤ jobs_due M i (k + 1) = at_least (jobs_due M i k) (jobs_due M i (k + 1)) (λ j b. (jobs_count M G i j (k + 1) l).1 (omega (arith, (jobs_count M G i j k l).0 b))) in
      let not-now : (j : ℕ) → j * T + D ≡ k + 1 → ⊥ = λ j a.
      let d : k ≡ j * T + (D - 1) = omega arith in
      e (ap (λ (x : ℕ). x % T) d ∙ digits_mod j (let z : D - 1 < T = omega (arith, G.apart i l) in z)) in
      let less : jobs_due M i (k + 1) ≤ jobs_due M i k = at_least (jobs_due M i (k + 1)) (jobs_due M i k) (λ j b.
      (jobs_count M G i j k l).1 (at_most (λ (h : k < j * T + D). not-now j (omega (arith, (jobs_count M G i j (k + 1) l).0 b))))) in
      omega arith

  pub jobs_step : jobs_due M i (k + 1) ≡ jobs_due M i k + bit (eqb (k % T) (D - 1))
  jobs_step = go (eqb (k % T) (D - 1)) refl
    where
      go : (b : Bool) → eqb (k % T) (D - 1) ≡ b → jobs_due M i (k + 1) ≡ jobs_due M i k + bit b
      go true e = ends (eqb-true _ _ e)
      go false e = goes_on (eqb-false _ _ e)

module _ (M : Model) (G : Sound M) where
  jobs_none : (i : ℕ) → i < M.rows → jobs_due M i 0 ≡ 0
  unfolding jobs_due
  jobs_none i k = rw (lt-leb (M.deadline i) 0 (omega (arith, G.some i k, G.room i k)))

  pub work_none : work_due M 0 ≡ 0
  unfolding work_due
  work_none = sum_eq M.rows (λ i k. rw (jobs_none i k) (rw (mul-zero (M.execution i)) (mul-zero (M.weight i)))) ∙ sum_zero M.rows

  -- the work grows by what falls due
  pub work_step : {m : ℕ} → Sequential M m → (k : ℕ) → work_due M (k + 1) ≡ work_due M k + sum M.rows (λ i. falling (row_of M i) k)
  unfolding work_due
  work_step q k =
      sum_eq M.rows (λ i l.
      rw (q.weight i, jobs_step M G i k l)
      (omega (arith, one-mul (M.execution i * jobs_due M i k), one-mul (M.execution i * (jobs_due M i k + bit (eqb (k % M.period i) (M.deadline i - 1)))), mul-add (M.execution i) (jobs_due M i k) (bit (eqb (k % M.period i) (M.deadline i - 1))))))
      ∙ sum_add M.rows (λ i. M.weight i * (M.execution i * jobs_due M i k)) (λ i. falling (row_of M i) k)
