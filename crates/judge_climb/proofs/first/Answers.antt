-- The first map and no pins are depth 1, and the map is measured.
use Rattle.basics.proofs.Overs.{holds_of}
use Rattle.judge_deepen.proofs.Depth.{reached_first}
use Rattle.judge_climb.proofs.first.Goals as goal

pub returns : goal.returns
returns c =
    let map = c.first_map.ensures in
    record { reached = reached_first _ _ map c.clear.ensures; line = c.measure.ensures _ (holds_of map c.requires.0) }
