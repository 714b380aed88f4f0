-- Euclid's rule gives a common divisor that every common divisor divides; the multiple is the least common one.
use mathlib.Core.Path.{◌≡◌, refl, ap, ◌∙◌}
use Prim.Native.Nat.{ℕ, zero, suc, ◌*◌, ◌%◌, ◌/◌, ◌≤◌, ◌<◌, ◌∣◌}
use native.Mathlib.Nat.{le_refl, le_trans, le_of_suc-le-suc, not-suc-le-zero, mod-lt, zero-lt-suc, dvd_refl, dvd-zero, dvd-mod_iff, dvd-sub, dvd-mul_left, dvd-mul_right_of_dvd, mul-dvd-mul_left, mul-dvd-mul_right, dvd_of_mul-dvd-mul_right, pos_of_dvd_of_pos, div-mul_cancel, mod-eq-sub-mul-div, mul-sub, mul_assoc, mul_comm, mul_right_comm, mul-pos, zero-mul, pos_of_ne-zero}
use native.Mathlib.Omega.{arith}
use Rattle.table_row.specs.Divisor.{divisor_in, divisor, multiple}

enough : (k j a b : ℕ) → b ≤ k → b ≤ j → divisor_in k a b ≡ divisor_in j a b
unfolding divisor_in
enough zero zero a b h g = refl
enough zero (suc j) a zero h g = refl
enough zero (suc j) a (suc b) h g = absurd (not-suc-le-zero h)
enough (suc k) zero a zero h g = refl
enough (suc k) zero a (suc b) h g = absurd (not-suc-le-zero g)
enough (suc k) (suc j) a zero h g = refl
enough (suc k) (suc j) a (suc b) h g =
    enough k j (suc b) (a % suc b)
    (le_trans (le_of_suc-le-suc (mod-lt a (zero-lt-suc b))) (le_of_suc-le-suc h))
    (le_trans (le_of_suc-le-suc (mod-lt a (zero-lt-suc b))) (le_of_suc-le-suc g))

-- the rule's two lines
pub divisor_zero : (a : ℕ) → divisor a 0 ≡ a
unfolding divisor
divisor_zero a = refl

pub divisor_step : (a b : ℕ) → 0 < b → divisor a b ≡ divisor b (a % b)
unfolding divisor
divisor_step a zero h = absurd (not-suc-le-zero h)
divisor_step a (suc b) h =
    enough b (a % suc b) (suc b) (a % suc b) (le_of_suc-le-suc (mod-lt a (zero-lt-suc b))) (le_refl (a % suc b))

-- a common divisor
divisor_in_dvd : (k a b : ℕ) → b ≤ k → (divisor_in k a b ∣ a) × (divisor_in k a b ∣ b)
unfolding divisor_in
divisor_in_dvd zero a zero h = (dvd_refl a, dvd-zero a)
divisor_in_dvd zero a (suc b) h = absurd (not-suc-le-zero h)
divisor_in_dvd (suc k) a zero h = (dvd_refl a, dvd-zero a)
divisor_in_dvd (suc k) a (suc b) h =
    let ih = divisor_in_dvd k (suc b) (a % suc b) (le_trans (le_of_suc-le-suc (mod-lt a (zero-lt-suc b))) (le_of_suc-le-suc h)) in
    ((dvd-mod_iff (divisor_in k (suc b) (a % suc b)) ih.0).0 ih.1, ih.0)

pub divisor_dvd_left : (a b : ℕ) → divisor a b ∣ a
unfolding divisor
divisor_dvd_left a b = (divisor_in_dvd b a b (le_refl b)).0

pub divisor_dvd_right : (a b : ℕ) → divisor a b ∣ b
unfolding divisor
divisor_dvd_right a b = (divisor_in_dvd b a b (le_refl b)).1

-- that each common divisor divides
divisor_in_greatest : (k a b d : ℕ) → b ≤ k → d ∣ a → d ∣ b → d ∣ divisor_in k a b
unfolding divisor_in
divisor_in_greatest zero a b d h p q = p
divisor_in_greatest (suc k) a zero d h p q = p
divisor_in_greatest (suc k) a (suc b) d h p q =
    divisor_in_greatest k (suc b) (a % suc b) d (le_trans (le_of_suc-le-suc (mod-lt a (zero-lt-suc b))) (le_of_suc-le-suc h)) q ((dvd-mod_iff d q).1 p)

pub divisor_greatest : (a b d : ℕ) → d ∣ a → d ∣ b → d ∣ divisor a b
unfolding divisor
divisor_greatest a b d p q = divisor_in_greatest b a b d (le_refl b) p q

-- what divides c times a and c times b divides c times their divisor
divisor_in_scaled : (k a b c d : ℕ) → b ≤ k → d ∣ c * a → d ∣ c * b → d ∣ c * divisor_in k a b
unfolding divisor_in
divisor_in_scaled zero a b c d h p q = p
divisor_in_scaled (suc k) a zero c d h p q = p
divisor_in_scaled (suc k) a (suc b) c d h p q =
    divisor_in_scaled k (suc b) (a % suc b) c d (le_trans (le_of_suc-le-suc (mod-lt a (zero-lt-suc b))) (le_of_suc-le-suc h)) q
    (rw (mod-eq-sub-mul-div a (suc b), mul-sub, ← mul_assoc c (suc b) (a / suc b)) (dvd-sub d p (dvd-mul_right_of_dvd d q (a / suc b))))

pub divisor_scaled : (a b c d : ℕ) → d ∣ c * a → d ∣ c * b → d ∣ c * divisor a b
unfolding divisor
divisor_scaled a b c d p q = divisor_in_scaled b a b c d (le_refl b) p q

-- the multiple times the divisor is the product
pub multiple_divisor : (a b : ℕ) → multiple a b * divisor a b ≡ a * b
unfolding multiple
multiple_divisor a b = mul_right_comm (a / divisor a b) b (divisor a b) ∙ ap (λ (x : ℕ). x * b) (div-mul_cancel (divisor a b) (divisor_dvd_left a b))

pub divisor_pos : (a b : ℕ) → 0 < a → 0 < divisor a b
divisor_pos a b h = pos_of_dvd_of_pos (divisor_dvd_left a b) h

pub multiple_dvd_right : (a b : ℕ) → b ∣ multiple a b
unfolding multiple
multiple_dvd_right a b = dvd-mul_left b (a / divisor a b)

pub multiple_dvd_left : (a b : ℕ) → 0 < a → a ∣ multiple a b
multiple_dvd_left a b h = dvd_of_mul-dvd-mul_right a (divisor_pos a b h) (rw (multiple_divisor a b) (mul-dvd-mul_left (divisor a b) a (divisor_dvd_right a b)))

-- and every common multiple is one of it
pub multiple_least : (a b c : ℕ) → 0 < a → a ∣ c → b ∣ c → multiple a b ∣ c
multiple_least a b c h p q =
    dvd_of_mul-dvd-mul_right (multiple a b) (divisor_pos a b h)
    (rw (multiple_divisor a b) (divisor_scaled a b c (a * b) (rw (mul_comm c a) (mul-dvd-mul_left b a q)) (mul-dvd-mul_right a p b)))

pub multiple_pos : (a b : ℕ) → 0 < a → 0 < b → 0 < multiple a b
multiple_pos a b h g = pos_of_ne-zero (λ e. omega (arith, mul-pos h g, multiple_divisor a b, ap (λ (x : ℕ). x * divisor a b) e, zero-mul (divisor a b)))
