-- Bytes written over a part of a list.
use Rattle.std.specs.Prelude.{ℕ, ◌+◌, cond, List, ◌++◌, length, take, drop, nat_le}

-- o with bs from a place on; where there is no room for them, o as it is
unfoldable pub over : List ℕ → ℕ → List ℕ → List ℕ
over o at bs = cond (nat_le (at + length bs) (length o)) (take at o ++ (bs ++ drop (at + length bs) o)) o
