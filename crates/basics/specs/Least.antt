-- The first number that passes a test.
use Rattle.std.specs.Prelude.{Bool, cond, ℕ, zero, suc}

-- the first of i, i + 1, .., i + k - 1 that passes, and i + k where none does
unfoldable pub least_from : (ℕ → Bool) → ℕ → ℕ → ℕ
least_from p i zero = i
least_from p i (suc k) = let r = least_from p (suc i) k in cond (p i) i r

-- the first number below n that passes, and n where none does
unfoldable pub least : (ℕ → Bool) → ℕ → ℕ
least p n = least_from p 0 n
