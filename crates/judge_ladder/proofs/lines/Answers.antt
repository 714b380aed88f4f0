-- Each line is told by its call.
use Rattle.std.proofs.Common.{[], arith, rules}
use Rattle.basics.proofs.Arrays.{map_made}
use Rattle.judge_climb.specs.Core.{to_line}
use Rattle.judge_ladder.proofs.lines.Goals as goal

pub returns : goal.returns
returns c = map_made _ to_line _ (λ x y q k. search rules) [] _ _ _ (omega arith) c.map.ensures.items
