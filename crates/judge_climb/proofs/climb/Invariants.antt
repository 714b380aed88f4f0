-- The lists are at depth y, and the lines up to it stand.
use Rattle.judge_climb.proofs.Climbing.{Climbing}
use Rattle.judge_climb.proofs.climb.Given as goal

abbrev pub invariant-loop-y : goal.invariant-loop-y
invariant-loop-y l = Climbing l.a.table l.a.frame l.initial.map l.initial.pins l.map l.pins l.square l.y
