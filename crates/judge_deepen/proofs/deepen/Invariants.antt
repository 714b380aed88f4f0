-- The rows below i are passed, over any available sets that the map holds.
use Rattle.basics.specs.Over.{Holds}
use Rattle.model.specs.Model.{Map}
use Rattle.sets.specs.Word.{words}
use Rattle.table.specs.Meaning.{model_of}
use Rattle.judge_deepen.specs.Step.{Shrinking}
use Rattle.judge_deepen.proofs.Pass.{Passed}
use Rattle.judge_deepen.proofs.deepen.Given as goal

abbrev pub invariant-loop-i : goal.invariant-loop-i
invariant-loop-i l =
    let M = model_of l.fn.a.table in
    let h = l.fn.a.frame in
    (A : Map) → Shrinking M h A → Holds (words M A) h l.initial.map → Passed M A l.i h l.initial.pins l.pins l.initial.map l.map l.changed
