-- The sum of the row's bits is the count of the slots that have it, and no more than they are.
use native.Mathlib.Omega.{arith}
use borrow.Author.Rules.{rules}
use mathlib.Core.Path.{◌∙◌}
use lib.ListN.{length}
use mir.Val.{bool_byte}
use Rattle.std.proofs.Common.{tests}
use Rattle.std.proofs.lemmas.Iterator.{YieldsList-from_slice, YieldsList-from_map}
use Rattle.std.proofs.lemmas.Iterator.Consumers.{sum_by_from_yields_List, fits_by_from_yields_list}
use Rattle.sets.specs.Word.{member}
use Rattle.judge_jobs.specs.First.{in_slot}
use Rattle.judge_jobs.proofs.Tally.{sum_tally, tally_le}
use Rattle.judge_jobs.proofs.count.Goals as goal

pub sum-requires-clause-fits : goal.sum-requires-clause-fits
sum-requires-clause-fits c =
    let l = c.args.pins.now in
    fits_by_from_yields_list _ _ c.map.result _ (YieldsList-from_map _ (λ w. bool_byte (member c.args.i w)) (YieldsList-from_slice l cc) c.map.ensures.closure (λ x r q k. search (rules, tests)))
    (omega (arith, sum_tally c.args.i l, tally_le (in_slot c.args.i l) 0 (length l)))

pub returns : goal.returns
returns c =
    let l = c.args.pins.now in
    sum_by_from_yields_List _ _ c.map.result _ c.sum.ensures.ran (YieldsList-from_map _ (λ w. bool_byte (member c.args.i w)) (YieldsList-from_slice l cc) c.map.ensures.closure (λ x r q k. search (rules, tests)))
    ∙ sum_tally c.args.i l
