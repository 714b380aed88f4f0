-- The lists as of the depth that is reached.
use Rattle.table.specs.Meaning.{model_of}
use Rattle.judge_deepen.specs.Reached.{Reached}
use Rattle.judge_deepen.proofs.deep.Given as goal

abbrev pub invariant-loop-y : goal.invariant-loop-y
invariant-loop-y l = Reached (model_of l.a.table) l._y l.a.frame l.initial.map l.initial.pins l.map l.pins
