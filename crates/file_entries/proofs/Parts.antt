-- How the code comes to the parts of an entry.
use mathlib.Core.Path.{◌≡◌, ap}
use Prim.Native.Nat.{ℕ, ◌+◌, ◌-◌, min}
use native.Mathlib.Numerals.{add-one}
use native.Mathlib.Omega.{arith}
use mathlib.Core.List.{List}
use lib.ListN.{length, take, drop, length-drop, drop_of_length-le}
use lib.Seq.{take_all, take-nil}
use Rattle.std.proofs.lemmas.Grind.{common_steps}
use Rattle.file_entries.specs.Limits.{after_entries}
use Rattle.file_entries.specs.Entries.{count_of, length_at, place_of}

-- a part of a list, cut off where the list ends
pub cut : (s : List ℕ) (a l : ℕ) → take (min (a + l) (length s) - min a (length s)) (drop (min a (length s)) s) ≡ take l (drop a s)
cut s a l = grind (arith, common_steps, take_all, drop_of_length-le, length-drop, take-nil)

-- "the first starts at 4 + 12n"
pub place_first : (s : List ℕ) (n : ℕ) → n ≡ count_of s → after_entries n ≡ place_of s 0
unfolding place_of
place_first s n e = ap after_entries e

-- "each next one where the last ended"
pub place_next : (s : List ℕ) (i : ℕ) → place_of s (i + 1) ≡ place_of s i + length_at s i
unfolding place_of
place_next s i = ap (place_of s) (add-one i)
