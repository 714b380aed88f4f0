-- The slots so far hold their set, or none where it is too large.
use lib.ListN.{get_or}
use Rattle.sets.specs.Word.{up_to}
use Rattle.basics.specs.Over.{Over}
use Rattle.judge_deepen.proofs.few_enough.Given as goal

abbrev pub invariant-loop-s : goal.invariant-loop-s
invariant-loop-s l = Over (λ k. up_to l.m (get_or l.map k 0)) 0 l.s l.initial.pins l.pins
