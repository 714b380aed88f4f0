-- The sum of the whole body is the sum of what is left, from a and b on.
use Rattle.std.proofs.Common.{◌≡◌, drop}
use Rattle.file_bytes.specs.Sum.{sum_from, sum_of}
use Rattle.file_bytes.proofs.body_sum.Given as goal

abbrev pub invariant-loop-x : goal.invariant-loop-x
invariant-loop-x l = sum_of l.s ≡ sum_from l.a l.b (drop l.x-index l.s)
