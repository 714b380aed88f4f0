-- Refused, or the verdict of the line at the frame.
use Rattle.std.proofs.lemmas.Result.{err_from_is_err_and}
use Rattle.judge_admit.proofs.Admitted.{admitted}
use Rattle.judge.proofs.Answers.{judged_refused, judged_given}
use Rattle.judge.proofs.judge.Goals as goal

pub line-l-requires : goal.line-l-requires
line-l-requires c =
    let a = admitted c.args.t _ _ _ c.in_ok-a.ensures.told in
    (a.map_room, a.pins_room)

pub returns-in_err-a : goal.returns-in_err-a
returns-in_err-a c =
    let p = err_from_is_err_and c.from_residual.result c.from_residual.ensures.1 in
    rw (p.1, p.2) (judged_refused c.args.t _ _ _ c.in_err-a.ensures.told)

pub returns : goal.returns
returns c =
    rw c.verdict_of.ensures
    (judged_given c.args.t _ _ _ _ _ _ c.in_ok-a.ensures.told (rw c.in_ok-a.ensures.same at c.line-l.ensures))
