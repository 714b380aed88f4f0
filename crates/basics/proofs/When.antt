-- How the code comes to the first case whose test decides, and what an answer tells of the tests.
use mathlib.Core.Path.{◌≡◌, refl}
use mathlib.Core.Bool.{Bool, true, false, cond}
use Prim.Native.Nat.{ℕ, ◌≤◌, ◌<◌}
use lib.Dec.{leb, ltb, eqb}
use borrow.Author.Tests.{eq-eqb, ne_eqb, lt-ltb, le-ltb, le-leb, lt-leb}
use Rattle.basics.specs.When.{when, unless}

-- by what a test says
module _ {A : Type 0} (a next z : A) where
  pub when_true : (t : Bool) → t ≡ true → z ≡ a → z ≡ when t a next
  unfolding when
  when_true t h e = rw h e

  pub when_false : (t : Bool) → t ≡ false → z ≡ next → z ≡ when t a next
  unfolding when
  when_false t h e = rw h e

  pub unless_true : (t : Bool) → t ≡ true → z ≡ next → z ≡ unless t a next
  unfolding unless
  unless_true t h e = rw h e

  pub unless_false : (t : Bool) → t ≡ false → z ≡ a → z ≡ unless t a next
  unfolding unless
  unless_false t h e = rw h e

  pub when_lt : (m n : ℕ) → m < n → z ≡ a → z ≡ when (ltb m n) a next
  when_lt m n h e = when_true (ltb m n) (lt-ltb m n h) e

  pub when_ge : (m n : ℕ) → n ≤ m → z ≡ next → z ≡ when (ltb m n) a next
  when_ge m n h e = when_false (ltb m n) (le-ltb m n h) e

  pub unless_le : (m n : ℕ) → m ≤ n → z ≡ next → z ≡ unless (leb m n) a next
  unless_le m n h e = unless_true (leb m n) (le-leb m n h) e

  pub unless_gt : (m n : ℕ) → n < m → z ≡ a → z ≡ unless (leb m n) a next
  unless_gt m n h e = unless_false (leb m n) (lt-leb m n h) e

  pub when_eq : (m n : ℕ) → m ≡ n → z ≡ a → z ≡ when (eqb m n) a next
  when_eq m n h e = when_true (eqb m n) (eq-eqb m n h) e

  pub when_ne : (m n : ℕ) → (m ≡ n → ⊥) → z ≡ next → z ≡ when (eqb m n) a next
  when_ne m n h e = when_false (eqb m n) (ne_eqb m n h) e

  pub unless_eq : (m n : ℕ) → m ≡ n → z ≡ next → z ≡ unless (eqb m n) a next
  unless_eq m n h e = unless_true (eqb m n) (eq-eqb m n h) e

  pub unless_ne : (m n : ℕ) → (m ≡ n → ⊥) → z ≡ a → z ≡ unless (eqb m n) a next
  unless_ne m n h e = unless_false (eqb m n) (ne_eqb m n h) e

-- `search tests` goes down an order of refusals by the tests at hand
pub ruleset tests = (when_lt, when_ge, when_eq, when_ne, unless_le, unless_gt, unless_eq, unless_ne, when_true, when_false, unless_true, unless_false)

-- what an answer says of the tests, where it is not the one that a test would give
module _ {A : Type 0} (f : A → ℕ) (t : Bool) (a next : A) (z : ℕ) where
  pub when_passed : f (when t a next) ≡ z → (f a ≡ z → ⊥) → (t ≡ false) × (f next ≡ z)
  unfolding when
  when_passed = go t
    where
      go : (t : Bool) → f (cond t a next) ≡ z → (f a ≡ z → ⊥) → (t ≡ false) × (f next ≡ z)
      go true e n = absurd (n e)
      go false e n = (refl, e)

  pub unless_passed : f (unless t a next) ≡ z → (f a ≡ z → ⊥) → (t ≡ true) × (f next ≡ z)
  unfolding unless
  unless_passed = go t
    where
      go : (t : Bool) → f (cond t next a) ≡ z → (f a ≡ z → ⊥) → (t ≡ true) × (f next ≡ z)
      go true e n = (refl, e)
      go false e n = absurd (n e)
