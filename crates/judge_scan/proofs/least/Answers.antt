-- Length after length both sums grow; the first at which the work is the greater is the answer.
use mathlib.Core.Path.{◌≡◌}
use Prim.Native.Nat.{◌+◌}
use native.Mathlib.Omega.{arith}
use Rattle.judge_scan.proofs.Running.{running_none, running_more, fails_here}
use Rattle.judge_scan.proofs.least.Goals as goal

pub loop-k-init : goal.loop-k-init
loop-k-init c = running_none _ _

pub returns-then-supply-work : goal.returns-then-supply-work
returns-then-supply-work c =
    let t : c.word_of_size.result ≡ c.loop-k.k + 1 = omega (arith, c.word_of_size.ensures, c.requires.0) in
    rw t (fails_here c.loop-k.invariant (omega arith) c.if-supply-work.true)

pub loop-k-preserved : goal.loop-k-preserved
loop-k-preserved c = running_more c.loop-k.invariant c.requires.2 (omega arith) (omega arith)
