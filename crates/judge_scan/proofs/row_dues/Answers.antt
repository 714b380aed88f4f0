-- From window's end to window's end, each slot there grows by the execution time.
use mathlib.Core.Path.{refl, ◌∙◌}
use native.Mathlib.Nat.{add-mod_right}
use native.Mathlib.Omega.{arith}
use Rattle.judge_scan.proofs.Falls.{ends_more, ends_all}
use Rattle.judge_scan.proofs.row_dues.Goals as goal

pub loop-s-preserved : goal.loop-s-preserved
loop-s-preserved c =
    let at = c.loop-s.invariant in
    record {
      at_end = add-mod_right c.loop-s.s _ ∙ at.at_end;
      near = omega arith;
      added = ends_more _ (omega arith) (omega arith) _ at.added at.at_end (omega arith) refl;
    }

pub returns : goal.returns
returns c =
    let at = c.loop-s.invariant in
    ends_all _ (omega arith) (omega arith) _ at.added at.at_end (omega arith) at.near

-- where the next end would be past the frame
pub returns-2 : goal.returns-2
returns-2 c =
    let at = c.loop-s.invariant in
    ends_all _ (omega arith) (omega arith) _ (ends_more _ (omega arith) (omega arith) _ at.added at.at_end (omega arith) refl) (add-mod_right c.loop-s.s _ ∙ at.at_end)
    (omega arith) (omega arith)
