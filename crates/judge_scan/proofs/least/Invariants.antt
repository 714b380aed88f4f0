-- Work and supply are summed over the slots so far, and no length up to there fails.
use Rattle.judge_scan.proofs.Running.{Running}
use Rattle.judge_scan.proofs.least.Given as goal

abbrev pub invariant-loop-k : goal.invariant-loop-k
invariant-loop-k l = Running l.dues l.usables l.supply l.work l.k
