-- From entry to entry: no line yet, then one line more.
use Rattle.text_shift.proofs.Texts.{through_none, through_more}
use Rattle.text_shift.proofs.put_lines.Goals as goal

pub loop-i-init : goal.loop-i-init
loop-i-init c = through_none

pub loop-i-preserved : goal.loop-i-preserved
loop-i-preserved c = through_more c.loop-i.invariant c.put_entry.ensures
