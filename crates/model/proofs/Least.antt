-- The least failing length: it is what it says, it is the only one, and there is one exactly when some length fails.
use mathlib.Core.Path.{◌≡◌, refl, sym, ◌∙◌}
use mathlib.Core.Bool.{Bool, true, false, cond}
use mathlib.Core.Logic.{◌⊎◌, inl, inr, ⊎_elim}
use Prim.Native.Nat.{ℕ, zero, suc, ◌≤◌, ◌<◌}
use native.Mathlib.Nat.{le_antisymm, le_refl, le_step, eq-or-lt_of_le, le_of_suc-le-suc, not-le_of_lt}
use native.Mathlib.Omega.{arith}
use lib.Dec.{eqb}
use borrow.Author.Tests.{ltb-true, ltb-false, ne_eqb}
use Rattle.model.specs.Model.{Model, Map}
use Rattle.model.specs.Supply.{supply}
use Rattle.model.specs.Work.{work_due}
use Rattle.model.specs.Failing.{fails, least_failing, Least}
use Rattle.basics.proofs.Bools.{lt_or_ge}

-- no length of 1 to H fails
abbrev pub Never : Model → Map → ℕ → Type 0
Never M A H = (t : ℕ) → 1 ≤ t → t ≤ H → work_due M t ≤ supply M A t

module _ (M : Model) (A : Map) where
  longer : (H t : ℕ) → Least M A H t → Least M A (suc H) t
  longer H t r = record { from = r.from; to = le_step r.to; here = r.here; before = r.before }

  here : (H : ℕ) → Never M A H → supply M A (suc H) < work_due M (suc H) → Least M A (suc H) (suc H)
  here H n h = record { from = omega arith; to = le_refl (suc H); here = h; before = λ s l g. n s l (le_of_suc-le-suc g) }

  more : (H : ℕ) → Never M A H → work_due M (suc H) ≤ supply M A (suc H) → Never M A (suc H)
  more H n h t l g = ⊎_elim (λ e. rw e h) (λ k. n t l (le_of_suc-le-suc k)) (eq-or-lt_of_le g)

  -- the computed length is the least one, or 0 where none fails
  pub least_is : (H : ℕ) → Least M A H (least_failing M A H) ⊎ ((least_failing M A H ≡ 0) × Never M A H)
  unfolding least_failing fails
  least_is zero = inr (refl, λ t l g. absurd (omega arith))
  least_is (suc H) = go (least_failing M A H) (least_is H)
    where
      Next : ℕ → Type 0
      Next t = Least M A (suc H) t ⊎ ((t ≡ 0) × Never M A (suc H))

      test : (b : Bool) → fails M A (suc H) ≡ b → Never M A H → Next (cond b (suc H) 0)
      test true e n = inl (here H n (ltb-true _ _ e))
      test false e n = inr (refl, more H n (ltb-false _ _ e))

      go : (t : ℕ) → Least M A H t ⊎ ((t ≡ 0) × Never M A H) → Next (cond (eqb t 0) (cond (fails M A (suc H)) (suc H) 0) t)
      go zero (inl r) = absurd (omega (arith, r.from))
      go zero (inr r) = test (fails M A (suc H)) refl r.1
      go (suc t) (inl r) = rw (ne_eqb (suc t) 0 (λ (e : suc t ≡ 0). omega arith)) (inl (longer H (suc t) r))
      go (suc t) (inr r) = absurd (omega (arith, r.0))

  -- a least failing length is unique
  pub least_unique : (H s t : ℕ) → Least M A H s → Least M A H t → s ≡ t
  least_unique H s t p q = le_antisymm (low s t p q) (low t s q p)
    where
      low : (s t : ℕ) → Least M A H s → Least M A H t → s ≤ t
      low s t p q = ⊎_elim (λ (h : t < s). absurd (not-le_of_lt q.here (p.before t q.from h))) (λ h. h) (lt_or_ge t s)

  -- it is the computed one
  pub least_found : (H t : ℕ) → Least M A H t → t ≡ least_failing M A H
  least_found H t r =
      ⊎_elim (λ q. least_unique H t (least_failing M A H) r q)
      (λ q. absurd (not-le_of_lt r.here (q.1 t r.from r.to))) (least_is H)

  pub least_none : (H : ℕ) → Never M A H → 0 ≡ least_failing M A H
  least_none H n =
      ⊎_elim (λ q. absurd (not-le_of_lt q.here (n (least_failing M A H) q.from q.to))) (λ q. sym q.0) (least_is H)

  -- some length fails exactly when the computed length is not 0
  pub least_exists : (H t : ℕ) → 1 ≤ t → t ≤ H → supply M A t < work_due M t → Least M A H (least_failing M A H)
  least_exists H t l g h = ⊎_elim (λ q. q) (λ q. absurd (not-le_of_lt h (q.1 t l g))) (least_is H)

  pub least_positive : (H : ℕ) → 0 < least_failing M A H → Least M A H (least_failing M A H)
  least_positive H l = ⊎_elim (λ q. q) (λ q. absurd (omega (arith, q.0))) (least_is H)

  pub least_zero : (H : ℕ) → least_failing M A H ≡ 0 → Never M A H
  least_zero H e = ⊎_elim (λ q. absurd (omega (arith, q.from))) (λ q. q.1) (least_is H)

-- two maps that agree on the supply up to H have the same least failing length
pub least_same : (M : Model) (A B : Map) (H : ℕ) → ((t : ℕ) → t ≤ H → supply M A t ≡ supply M B t) → least_failing M A H ≡ least_failing M B H
least_same M A B H e = ⊎_elim (λ r. least_found M B H _ (moved r)) (λ r. r.0 ∙ least_none M B H (λ t l g. rw (← e t g) (r.1 t l g))) (least_is M A H)
  where
    moved : {t : ℕ} → Least M A H t → Least M B H t
    moved r = record {
      from = r.from;
      to = r.to;
      here = rw (← e _ r.to) r.here;
      before = λ s l g. rw (← e s (omega (arith, r.to))) (r.before s l g);
    }
