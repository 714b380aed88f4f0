-- A number in decimal, in bytes.
use Rattle.std.specs.Prelude.{cond, List, [], ◌∷◌, ◌++◌, ℕ, zero, suc, ◌+◌, ◌/◌, ◌%◌, ltb}

-- the byte of a digit
abbrev pub digit : ℕ → ℕ
digit d = 48 + d

-- the digits of n, in k steps at the most: a number below 10 is one digit, another has one more than its tenth
unfoldable pub decimal_in : ℕ → ℕ → List ℕ
decimal_in zero n = digit n ∷ []
decimal_in (suc k) n = cond (ltb n 10) (digit n ∷ []) (decimal_in k (n / 10) ++ (digit (n % 10) ∷ []))

-- n falls with each step, so n steps are enough
unfoldable pub decimal : ℕ → List ℕ
unfolding decimal_in
decimal n = decimal_in n n
