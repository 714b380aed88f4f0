-- The sum of a body.
use Rattle.std.specs.Prelude.{ℕ, ◌+◌, ◌*◌, ◌%◌, List, [], ◌∷◌}

-- "for each byte, a grows by the byte and then b by a, both rolling over at 65,536. The sum is a plus 65,536 times b."
unfoldable pub sum_from : ℕ → ℕ → List ℕ → ℕ
sum_from a b [] = a + 65536 * b
sum_from a b (x ∷ xs) = let a' = (a + x) % 65536 in sum_from a' ((b + a') % 65536) xs

-- "a and b start at 0"
unfoldable pub sum_of : List ℕ → ℕ
sum_of xs = sum_from 0 0 xs
