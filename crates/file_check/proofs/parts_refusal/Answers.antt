-- The first body that is refused.
use Rattle.file_check.proofs.Steps.{parts_refused}
use Rattle.file_check.proofs.parts_refusal.Goals as goal

pub returns-in-Err : goal.returns-in-Err
returns-in-Err c = parts_refused _ _ c.loop-i.i c.in-Err.r _ c.loop-i.invariant c.in-Err.ensures c.in_entry.ensures c.loop-i-test.true
