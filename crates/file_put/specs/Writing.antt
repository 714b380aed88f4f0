-- For the proofs alone: what the writing of the new file answers and leaves.
use Rattle.std.specs.Prelude.{◌≡◌, cond, ℕ, List, length, eqb}
use Rattle.file_bytes.specs.Over.{over}
use Rattle.file_new.specs.Steps.{length_refusal}
use Rattle.file_put.specs.Put.{Written}

-- what the writing of a file of len bytes answers
unfoldable pub written_of : ℕ → ℕ → Written
written_of len room = record {
  refusal = length_refusal len room;
  length = cond (eqb (length_refusal len room).no 0) len 0;
}

-- and what it leaves in the output
unfoldable pub written_over : List ℕ → List ℕ → List ℕ
written_over out file = cond (eqb (length_refusal (length file) (length out)).no 0) (over out 0 file) out

pub record Writes (file before after : List ℕ) (r : Written) : Type 0 where
  pub answer : r ≡ written_of (length file) (length before)
  pub output : after ≡ written_over before file
