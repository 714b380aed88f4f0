-- A job with too few slots stays as it is; one with enough keeps the first c in both lists.
use native.Mathlib.Omega.{arith}
use Rattle.judge_jobs.proofs.Done.{job_open, job_full}
use Rattle.judge_jobs.proofs.job.Goals as goal

pub returns-then-total-c : goal.returns-then-total-c
returns-then-total-c c = job_open _ _ _ _ (omega (arith, c.count-total.ensures))

pub returns : goal.returns
returns c =
    let r = c.restrict.ensures in
    job_full _ _ _ _ (omega (arith, c.count-total.ensures, c.if-total-c.false)) c.trim.ensures (rw c.requires at r.0) (rw c.requires at r.1)
