-- The lists of a scan have what falls due and what is usable; the least length of the lists is that of the map.
use Rattle.judge_scan.proofs.Answer.{zeros, dues_low, usables_low, answer}
use Rattle.judge_scan.proofs.scan.Goals as goal

pub dues-requires : goal.dues-requires
dues-requires c = zeros _ c.args.a.accepted.frame_high

pub least-requires : goal.least-requires
least-requires c =
    let f = c.args.a.accepted in
    (f.frame_high, dues_low _ f c.dues.ensures, usables_low _ c.args.map.now c.usables.ensures f.m_high)

pub returns : goal.returns
returns c = answer _ c.args.a.accepted c.dues.ensures c.usables.ensures c.least.ensures
