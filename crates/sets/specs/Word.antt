-- "Each slot's set of rows is one 32-bit word, bit i for row i, and the size of a set is its count of ones."
use Rattle.std.specs.Prelude.{Bool, true, cond, ℕ, zero, suc, ◌+◌, ◌-◌, ◌*◌, ◌/◌, ◌%◌, ◌^◌, leb, ltb, eqb}
use Rattle.std.specs.Int.Count.{ones}
use Rattle.basics.specs.Sum.{bit}
use Rattle.model.specs.Model.{Model, Map}

-- how many rows a set can have
abbrev pub width : ℕ
width = 32

-- the word of the rows below n that pass the test p
unfoldable pub word : ℕ → (ℕ → Bool) → ℕ
word zero p = 0
word (suc n) p = bit (p n) * 2 ^ n + word n p

-- whether row i is in the set w
unfoldable pub member : ℕ → ℕ → Bool
member i w = eqb (w / 2 ^ i % 2) 1

-- w without row i
unfoldable pub unset : ℕ → ℕ → ℕ
unset i w = w - w / 2 ^ i % 2 * 2 ^ i

-- w, with row i in it if b says so and not in it otherwise
unfoldable pub put : ℕ → Bool → ℕ → ℕ
put i b w = unset i w + bit b * 2 ^ i

-- w with row i, in words of W bits: a row number past the width changes nothing
unfoldable pub adding : ℕ → ℕ → ℕ → ℕ
adding W i w = cond (ltb i W) (put i true w) w

-- w where its size is at most m, else the empty set
unfoldable pub up_to : ℕ → ℕ → ℕ
up_to m w = cond (leb (ones w) m) w 0

-- the words of a map
abbrev pub words : Model → Map → ℕ → ℕ
words M A s = word M.rows (A s)
