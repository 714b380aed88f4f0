-- What the first number that passes a test is, and how a loop finds it.
use mathlib.Core.Path.{◌≡◌, refl, sym, ap, ap₂, ◌∙◌}
use mathlib.Core.Bool.{Bool, true, false, cond}
use mathlib.Core.Logic.{◌⊎◌, inl, inr, ⊎_elim}
use Prim.Native.Nat.{ℕ, zero, suc, ◌+◌, ◌≤◌, ◌<◌, zero-le}
use native.Mathlib.Nat.{le_refl, eq-or-lt_of_le}
use native.Mathlib.Omega.{arith}
use Rattle.basics.proofs.Bools.{lt_or_ge, clash}
use Rattle.basics.specs.Least.{least_from, least}

module _ (p : ℕ → Bool) where
  cond_le : (b : Bool) (i j n : ℕ) → i ≤ n → j ≤ n → cond b i j ≤ n
  cond_le true i j n h g = h
  cond_le false i j n h g = g

  cond_ge : (b : Bool) (i j n : ℕ) → n ≤ i → n ≤ j → n ≤ cond b i j
  cond_ge true i j n h g = h
  cond_ge false i j n h g = g

  from_le : (i k : ℕ) → least_from p i k ≤ i + k
  unfolding least_from
  from_le i zero = omega arith
  from_le i (suc k) = cond_le (p i) i (least_from p (suc i) k) (i + suc k) (omega arith) (omega (arith, from_le (suc i) k))

  from_ge : (i k : ℕ) → i ≤ least_from p i k
  unfolding least_from
  from_ge i zero = le_refl i
  from_ge i (suc k) = cond_ge (p i) i (least_from p (suc i) k) i (le_refl i) (omega (arith, from_ge (suc i) k))

  from_below : (i k j : ℕ) → i ≤ j → j < least_from p i k → p j ≡ false
  unfolding least_from
  from_below i zero j h g = absurd (omega arith)
  from_below i (suc k) j h g = go (from_below (suc i) k j) (p i) refl g
    where
      go : (suc i ≤ j → j < least_from p (suc i) k → p j ≡ false) → (b : Bool) → p i ≡ b → j < cond b i (least_from p (suc i) k) → p j ≡ false
      go ih true e l = absurd (omega arith)
      go ih false e l = ⊎_elim (λ q. ap p (sym q) ∙ e) (λ q. ih q l) (eq-or-lt_of_le h)

  from_here : (i k : ℕ) → least_from p i k < i + k → p (least_from p i k) ≡ true
  unfolding least_from
  from_here i zero h = absurd (omega arith)
  from_here i (suc k) h = go (from_here (suc i) k) (p i) refl h
    where
      go : (least_from p (suc i) k < suc i + k → p (least_from p (suc i) k) ≡ true) → (b : Bool) → p i ≡ b → cond b i (least_from p (suc i) k) < i + suc k → p (cond b i (least_from p (suc i) k)) ≡ true
      go ih true e l = e
      go ih false e l = ih (omega arith)

  -- what `least` is
  pub least_le : (n : ℕ) → least p n ≤ n
  unfolding least
  least_le n = omega (arith, from_le 0 n)

  pub least_below : (n j : ℕ) → j < least p n → p j ≡ false
  unfolding least
  least_below n j h = from_below 0 n j zero-le h

  pub least_here : (n : ℕ) → least p n < n → p (least p n) ≡ true
  unfolding least
  least_here n h = from_here 0 n (omega arith)

  -- and how a loop finds it
  pub least_found : (n i : ℕ) → ((k : ℕ) → k < i → p k ≡ false) → p i ≡ true → i < n → i ≡ least p n
  least_found n i f e h = go (eq-or-lt_of_le (le_least (least p n) (least_le n) refl))
    where
      le_least : (m : ℕ) → m ≤ n → least p n ≡ m → i ≤ m
      le_least m l q = ⊎_elim (λ (x : m < i). clash (least_here n (omega arith)) (f (least p n) (omega arith))) (λ x. x) (lt_or_ge m i)

      go : (i ≡ least p n) ⊎ (i < least p n) → i ≡ least p n
      go (inl q) = q
      go (inr q) = clash e (least_below n i q)

  pub least_none : (n : ℕ) → ((k : ℕ) → k < n → p k ≡ false) → n ≡ least p n
  least_none n f = go (eq-or-lt_of_le (least_le n))
    where
      go : (least p n ≡ n) ⊎ (least p n < n) → n ≡ least p n
      go (inl q) = sym q
      go (inr q) = clash (least_here n q) (f (least p n) q)

-- tests that agree below n have the same first number
from_ext : (p q : ℕ → Bool) (i k : ℕ) → ((j : ℕ) → j < i + k → p j ≡ q j) → least_from p i k ≡ least_from q i k
unfolding least_from
from_ext p q i zero f = refl
from_ext p q i (suc k) f =
    ap₂ (λ (b : Bool) (r : ℕ). cond b i r) (f i (omega arith)) (from_ext p q (suc i) k (λ j h. f j (omega arith)))

pub least_ext : (n : ℕ) {p q : ℕ → Bool} → ((j : ℕ) → j < n → p j ≡ q j) → least p n ≡ least q n
unfolding least
least_ext n {p} {q} f = from_ext p q 0 n (λ j h. f j (omega arith))
