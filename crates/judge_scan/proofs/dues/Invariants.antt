-- What falls due of the rows so far is added.
use Rattle.judge_scan.specs.Dues.{falling_in, Falls}
use Rattle.judge_scan.proofs.dues.Given as goal

abbrev pub invariant-loop-row : goal.invariant-loop-row
invariant-loop-row l = Falls (falling_in l.fn.a.table l.row-index) l.fn.a.frame l.initial.list l.list
