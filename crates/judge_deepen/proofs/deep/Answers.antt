-- Each turn goes one depth further; where that changed nothing, the lists are those of the table's depth already.
use native.Mathlib.Omega.{arith}
use Rattle.basics.proofs.Overs.{over_held, holds_of}
use Rattle.table.proofs.Accepted.{sound_model, divides_mod}
use Rattle.judge_deepen.proofs.Depth.{depth_step, depth_stop, reached_first, reached_then}
use Rattle.judge_deepen.proofs.deep.Goals as goal

pub loop-y-init : goal.loop-y-init
loop-y-init c = reached_first _ _ (over_held c.requires.holds) (over_held (holds_of c.clear.ensures c.requires.room.1))

pub returns-then-not-deepen : goal.returns-then-not-deepen
returns-then-not-deepen c =
    let f = c.args.a.accepted in
    let at = c.loop-y.invariant in
    reached_then _ _ (reached_first _ _ (over_held c.requires.holds) c.clear.ensures)
    (reached_then _ _ at
    (depth_stop _ (sound_model _ _ f) _ (divides_mod _ _ f) _ (omega arith) (holds_of at.available_sets c.requires.room.0) c.deepen.ensures c.if-not-deepen.true _ (omega arith)))

pub loop-y-preserved : goal.loop-y-preserved
loop-y-preserved c =
    let f = c.args.a.accepted in
    let at = c.loop-y.invariant in
    reached_then _ _ at (depth_step _ (sound_model _ _ f) _ (divides_mod _ _ f) _ (omega arith) (holds_of at.available_sets c.requires.room.0) c.deepen.ensures)
