-- Each turn takes one job more, from a release to the next.
use mathlib.Core.Path.{◌≡◌, ◌∙◌}
use Prim.Native.Nat.{◌+◌}
use native.Mathlib.Nat.{add-mod_right}
use native.Mathlib.Omega.{arith}
use Rattle.judge_jobs.proofs.Row.{release_fits, row_turn}
use Rattle.judge_jobs.proofs.row_pass.Goals as goal

pub loop-from-preserved : goal.loop-from-preserved
loop-from-preserved c =
    let v = c.loop-from.invariant in
    let n = c.requires in
    record {
      inside = release_fits _ _ _ n.0 c.loop-from-test.true v.release n.2;
      release = add-mod_right c.loop-from.from _ ∙ v.release;
      done = row_turn c.args.i c.args.row c.loop-from.from c.args.h n.0 n.1 v.release n.2 c.loop-from-test.true v.done (omega arith) (omega arith) (omega arith) c.job-changed.ensures;
    }

-- the job whose period ends with the frame
pub returns-2 : goal.returns-2
returns-2 c =
    let v = c.loop-from.invariant in
    let n = c.requires in
    let f = release_fits c.args.row.period c.loop-from.from c.args.h n.0 c.loop-from-test.true v.release n.2 in
    let e : c.loop-from.from + c.args.row.period ≡ c.args.h = omega arith in
    rw e at (row_turn c.args.i c.args.row c.loop-from.from c.args.h n.0 n.1 v.release n.2 c.loop-from-test.true v.done (omega arith) (omega arith) (omega arith) c.job-changed.ensures)
