-- Refused, or the square told line by line.
use Rattle.judge_admit.proofs.Admitted.{admitted}
use Rattle.judge_ladder.proofs.Answers.{laddered_refused, laddered_given}
use Rattle.judge_ladder.proofs.ladder.Goals as goal

pub climb-requires : goal.climb-requires
climb-requires c =
    let a = admitted c.args.t _ _ _ c.in-Ok.ensures.told in
    (a.map_room, a.pins_room)

pub returns-in-Err : goal.returns-in-Err
returns-in-Err c = rw c.zeros.ensures (laddered_refused c.args.t _ _ _ c.in-Err.ensures.told)

pub returns-in-Ok : goal.returns-in-Ok
returns-in-Ok c =
    rw c.lines.ensures
    (laddered_given c.args.t _ _ _ _ _ _ c.in-Ok.ensures.told (rw c.in-Ok.ensures.same at c.climb.ensures))
