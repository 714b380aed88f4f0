-- The place is within the buffer. What is left of the buffer falls with each piece.
use Rattle.std.proofs.Common.{length, ◌-◌, ◌≤◌}
use Rattle.shift.proofs.read_file.Given as goal

abbrev pub invariant-loop-at : goal.invariant-loop-at
invariant-loop-at l = l.at ≤ length l.file

abbrev pub decreases-loop-at : goal.decreases-loop-at
decreases-loop-at l = length l.initial.file - l.at
