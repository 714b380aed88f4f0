-- The rows below i have their spans at their places.
use Rattle.judge_first.specs.Spans.{SpansOf}
use Rattle.judge_first.proofs.spans.Given as goal

abbrev pub invariant-loop-i : goal.invariant-loop-i
invariant-loop-i l = SpansOf l.fn.a.table l.i l.all
