-- Sums and tests over the numbers below a bound.
use Rattle.std.specs.Prelude.{Bool, true, false, ◌&&◌, ℕ, zero, suc, ◌+◌}

-- sum n f = f 0 + .. + f (n - 1)
unfoldable pub sum : ℕ → (ℕ → ℕ) → ℕ
sum zero f = 0
sum (suc n) f = sum n f + f n

-- 1 for what holds, 0 for what does not
abbrev pub bit : Bool → ℕ
bit true = 1
bit false = 0

-- f holds of every number below n
unfoldable pub all : ℕ → (ℕ → Bool) → Bool
all zero f = true
all (suc n) f = all n f && f n
