-- The frame that the check gives is that of an accepted table.
use Rattle.table.proofs.Accepted.{accepted_frame}
use Rattle.judge_admit.proofs.admit.Goals as goal

pub invariant_of-result : goal.invariant_of-result
invariant_of-result c = record { accepted = accepted_frame _ _ c.in_ok-frame.ensures }
