-- The slots so far hold the word of their windows.
use Rattle.sets.specs.Word.{words}
use Rattle.basics.specs.Over.{Over}
use Rattle.model.specs.Windows.{window}
use Rattle.table.specs.Meaning.{model_of}
use Rattle.judge_first.proofs.first_map.Given as goal

abbrev pub invariant-loop-s : goal.invariant-loop-s
invariant-loop-s l = let M = model_of l.fn.a.table in Over (words M (window M)) 0 l.s l.initial.map l.map
