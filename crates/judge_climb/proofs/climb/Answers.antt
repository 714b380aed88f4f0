-- Depth after depth, until the last or one that changed nothing: the lists are at that depth, and the lines up to it stand.
use mathlib.Core.Path.{◌≡◌}
use native.Mathlib.Omega.{arith}
use Rattle.judge_deepen.proofs.Depth.{reached_then}
use Rattle.judge_climb.proofs.Climbing.{climbing_more, climbing_stop}
use Rattle.judge_climb.proofs.Squares.{square_is}
use Rattle.table_row.specs.Limits.{most_depths}
use Rattle.judge_climb.proofs.climb.Goals as goal

pub returns-then-not-deepen : goal.returns-then-not-deepen
returns-then-not-deepen c =
    let end = climbing_stop c.args.a.accepted c.loop-y.invariant (omega arith) (omega arith) (omega arith) c.deepen.ensures c.if-not-deepen.true c.repeated.ensures in
    record { square = end.0; reached = reached_then _ _ c.first.ensures.reached end.1 }

pub loop-y-preserved : goal.loop-y-preserved
loop-y-preserved c = climbing_more c.args.a.accepted c.loop-y.invariant (omega arith) (omega arith) (omega arith) c.deepen.ensures c.measure.ensures

pub returns : goal.returns
returns c =
    let at = c.loop-y.invariant in
    let end : c.loop-y.y ≡ most_depths = omega arith in
    record {
      square = square_is _ _ c.loop-y.square at.len (λ k g. at.lines k (omega arith));
      reached = rw end at (reached_then _ _ c.first.ensures.reached at.reached);
    }
