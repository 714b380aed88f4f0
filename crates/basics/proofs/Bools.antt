-- Taking tests apart, and cases on orders.
use mathlib.Core.Path.{◌≡◌, refl, sym, ◌∙◌}
use mathlib.Core.Logic.{◌⊎◌, inl, inr}
use mathlib.Core.Bool.{Bool, true, false, cond, ◌&&◌, ◌||◌, true≢false, false≢true}
use Prim.Native.Nat.{ℕ, ◌≤◌, ◌<◌}
use native.Mathlib.Decide.{dec_lt}
use native.Mathlib.Omega.{arith}

pub and_left : (a b : Bool) → a && b ≡ true → a ≡ true
and_left true b e = refl
and_left false b e = e

pub and_right : (a b : Bool) → a && b ≡ true → b ≡ true
and_right true b e = e
and_right false b e = absurd (false≢true e)

pub or_left : {a : Bool} (b : Bool) → a ≡ true → a || b ≡ true
or_left b p = rw p

pub or_right : (a : Bool) {b : Bool} → b ≡ true → a || b ≡ true
or_right true q = refl
or_right false q = q

pub cond_cases : (c a b : Bool) → cond c a b ≡ true → ((c ≡ true) × (a ≡ true)) ⊎ ((c ≡ false) × (b ≡ true))
cond_cases true a b e = inl (refl, e)
cond_cases false a b e = inr (refl, e)

pub clash : {A : Type 0} {b : Bool} → b ≡ true → b ≡ false → A
clash p q = absurd (true≢false (sym p ∙ q))

pub lt_or_ge : (a b : ℕ) → (a < b) ⊎ (b ≤ a)
lt_or_ge a b = go (dec_lt a b)
  where
    go : Dec (a < b) → (a < b) ⊎ (b ≤ a)
    go (yes h) = inl h
    go (no f) = inr (omega arith)
