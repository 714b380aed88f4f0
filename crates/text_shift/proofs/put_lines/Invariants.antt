-- The lines of the first i entries are written, and the lists are as these entries leave them.
use Rattle.text_shift.specs.Steps.{Through}
use Rattle.text_shift.proofs.put_lines.Given as goal

abbrev pub invariant-loop-i : goal.invariant-loop-i
invariant-loop-i l = Through l.file l.i l.initial.map l.initial.pins l.initial.output l.map l.pins l.output
