-- Laws of sums, and of tests of all numbers below a bound. Assumes nothing.
use mathlib.Core.Path.{◌≡◌, refl, sym, ap₂}
use mathlib.Core.Bool.{Bool, true, false, false≢true}
use Prim.Native.Nat.{ℕ, zero, suc, ◌+◌, ◌*◌, ◌≤◌, ◌<◌, zero-le}
use native.Mathlib.Nat.{le_of_suc-le-suc, not-suc-le-zero, eq-or-lt_of_le, le_refl, le_step, add-le-add, le_dest, le-add_right, add-zero, add-suc, add_assoc, mul-add, mul-zero, mul-suc}
use native.Mathlib.Omega.{arith}
use mathlib.Core.Logic.{◌⊎◌, inl, inr}
use Rattle.basics.specs.Sum.{sum, bit, all}
use Rattle.basics.proofs.Bools.{and_left, and_right}

pub bit_le : (a b : Bool) → (a ≡ true → b ≡ true) → bit a ≤ bit b
bit_le true true h = le_refl 1
bit_le true false h = absurd (false≢true (h refl))
bit_le false b h = zero-le

pub sum_le : (n : ℕ) {f g : ℕ → ℕ} → ((i : ℕ) → i < n → f i ≤ g i) → sum n f ≤ sum n g
unfolding sum
sum_le zero h = le_refl 0
sum_le (suc n) h = add-le-add (sum_le n (λ i l. h i (le_step l))) (h n (le_refl (suc n)))

pub sum_eq : (n : ℕ) {f g : ℕ → ℕ} → ((i : ℕ) → i < n → f i ≡ g i) → sum n f ≡ sum n g
unfolding sum
sum_eq zero h = refl
sum_eq (suc n) h = ap₂ ◌+◌ (sum_eq n (λ i l. h i (le_step l))) (h n (le_refl (suc n)))

-- a sum cut in two
pub sum_cut : (a b : ℕ) (f : ℕ → ℕ) → sum (a + b) f ≡ sum a f + sum b (λ o. f (a + o))
unfolding sum
sum_cut a zero f = rw (add-zero a, add-zero (sum a f))
sum_cut a (suc b) f = rw (add-suc a b, sum_cut a b f) (add_assoc (sum a f) (sum b (λ o. f (a + o))) (f (a + b)))

pub sum_longer : {a b : ℕ} (f : ℕ → ℕ) → a ≤ b → sum a f ≤ sum b f
sum_longer {a} {b} f h =
    let d = le_dest h in
    rw (← d.1, sum_cut) (le-add_right (sum a f) (sum d.0 (λ o. f (a + o))))

pub sum_add : (n : ℕ) (f g : ℕ → ℕ) → sum n (λ i. f i + g i) ≡ sum n f + sum n g
unfolding sum
sum_add zero f g = refl
sum_add (suc n) f g = omega (arith, sum_add n f g)

pub sum_mul : (n k : ℕ) (f : ℕ → ℕ) → sum n (λ i. k * f i) ≡ k * sum n f
unfolding sum
sum_mul zero k f = sym (mul-zero k)
sum_mul (suc n) k f = rw (sum_mul n k f, mul-add)

pub sum_zero : (n : ℕ) → sum n (λ i. 0) ≡ 0
unfolding sum
sum_zero zero = refl
sum_zero (suc n) = omega (arith, sum_zero n)

pub sum_swap : (a b : ℕ) (f : ℕ → ℕ → ℕ) → sum a (λ s. sum b (f s)) ≡ sum b (λ i. sum a (λ s. f s i))
unfolding sum
sum_swap zero b f = sym (sum_zero b)
sum_swap (suc a) b f = rw (sum_swap a b f) (sym (sum_add b (λ i. sum a (λ s. f s i)) (f a)))

pub sum_same : (n k : ℕ) → sum n (λ i. k) ≡ k * n
unfolding sum
sum_same zero k = sym (mul-zero k)
sum_same (suc n) k = rw (sum_same n k, mul-suc)

pub all_at : (n : ℕ) (f : ℕ → Bool) → all n f ≡ true → (i : ℕ) → i < n → f i ≡ true
unfolding all
all_at zero f e i l = absurd (not-suc-le-zero l)
all_at (suc n) f e i l = go (all_at n f (and_left (all n f) _ e) i) (eq-or-lt_of_le (le_of_suc-le-suc l))
  where
    go : (i < n → f i ≡ true) → (i ≡ n) ⊎ (i < n) → f i ≡ true
    go h (inl p) = rw p (and_right (all n f) _ e)
    go h (inr m) = h m
