-- "numbers are little-endian"
use Rattle.std.specs.Prelude.{ℕ, ◌+◌, ◌*◌, ◌/◌, ◌%◌, List, [], ◌∷◌, ◌++◌, slice_index}

-- the number that the two bytes from a place on hold; past the end every byte is 0
unfoldable pub at16 : List ℕ → ℕ → ℕ
at16 s at = slice_index s at + 256 * slice_index s (at + 1)

-- and that of four bytes
unfoldable pub at32 : List ℕ → ℕ → ℕ
at32 s at = at16 s at + 65536 * at16 s (at + 2)

-- the two bytes of a number
abbrev pub bytes16 : ℕ → List ℕ
bytes16 n = n % 256 ∷ n / 256 ∷ []

-- and the four
abbrev pub bytes32 : ℕ → List ℕ
bytes32 n = bytes16 (n % 65536) ++ bytes16 (n / 65536)
