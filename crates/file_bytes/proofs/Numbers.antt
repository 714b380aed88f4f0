-- Numbers past the end of a list.
use Rattle.std.proofs.Common.{◌≡◌, ℕ, ◌+◌, ◌≤◌, List, length, arith}
use lib.ListN.{get_or-eq_default}
use Rattle.file_bytes.specs.Number.{at16}

pub past_end : (s : List ℕ) (at : ℕ) → length s ≤ at → 0 ≡ at16 s at
unfolding at16
past_end s at h =
    rw (get_or-eq_default s 0 {n = at} h, get_or-eq_default s 0 {n = at + 1} (omega arith))
