-- The greatest common divisor, by Euclid's rule, and the least common multiple.
use Rattle.std.specs.Prelude.{ℕ, zero, suc, ◌*◌, ◌/◌, ◌%◌}

-- "the divisor of (a, b) is that of (b, a mod b), until b is 0", in k steps at the most
unfoldable pub divisor_in : ℕ → ℕ → ℕ → ℕ
divisor_in zero a b = a
divisor_in (suc k) a zero = a
divisor_in (suc k) a (suc b) = divisor_in k (suc b) (a % suc b)

-- b falls with each step, so b steps are enough
unfoldable pub divisor : ℕ → ℕ → ℕ
unfolding divisor_in
divisor a b = divisor_in b a b

unfoldable pub multiple : ℕ → ℕ → ℕ
multiple a b = a / divisor a b * b
