-- The round trip on the worked file of 38 bytes: the theorem's premises hold of it.
use mathlib.Core.Path.{◌≡◌, refl, ap}
use mathlib.Core.Bool.{Bool, true, ◌&&◌}
use Prim.Native.Nat.{ℕ, ◌≤◌}
use mathlib.Core.List.{List, [], ◌∷◌, ◌++◌}
use lib.ListN.{length, drop}
use lib.Dec.{ltb}
use borrow.Author.Tests.{ltb-true}
use Rattle.basics.proofs.Bools.{and_left, and_right}
use Rattle.refusal.specs.Refusal.{none}
use Rattle.file_check.specs.Find.{Found}
use Rattle.file_check.proofs.Worked.{worked, table, worked_found}
use Rattle.file_put.specs.Put.{put_of, put_out}
use Rattle.file_laws.specs.Valid.{Bytes}
use Rattle.file_laws.proofs.Bytes.{bytes_none, bytes_more}
use Rattle.file_laws.proofs.RoundTrip.{put_back}

bytes : List ℕ → Bool
bytes [] = true
bytes (x ∷ xs) = ltb x 256 && bytes xs

bytes_are : (xs : List ℕ) → bytes xs ≡ true → Bytes xs
unfolding bytes
bytes_are [] h = bytes_none
bytes_are (x ∷ xs) h = bytes_more x xs (ltb-true _ _ (and_left (ltb x 256) (bytes xs) h)) (bytes_are xs (and_right (ltb x 256) (bytes xs) h))

worked_bytes : Bytes worked
unfolding worked bytes
worked_bytes = bytes_are worked refl

pub worked_back : (out : List ℕ) → 38 ≤ length out
    → (put_of worked 7 table (length out) ≡ record { refusal = none; length = 38 }) × (put_out worked 7 table out ≡ worked ++ drop 38 out)
unfolding worked
worked_back out h = rw worked_found at (put_back worked 7 worked_bytes (ap (λ (f : Found). f.refusal.no) worked_found) out h)
