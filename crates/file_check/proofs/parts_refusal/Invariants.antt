-- The bodies passed so far have no refusal.
use Rattle.std.proofs.Common.{◌≡◌, ℕ, ◌<◌}
use Rattle.file_check.specs.Check.{part_refusal}
use Rattle.file_check.proofs.parts_refusal.Given as goal

abbrev pub invariant-loop-i : goal.invariant-loop-i
invariant-loop-i l = (k : ℕ) → k < l.i → (part_refusal l.s k).no ≡ 0
