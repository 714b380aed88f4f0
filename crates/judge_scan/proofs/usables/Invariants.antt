-- The slots so far hold their usable supply.
use Prim.Native.Nat.{min}
use lib.Count.{ones}
use lib.ListN.{get_or}
use Rattle.basics.specs.Over.{Over}
use Rattle.judge_scan.proofs.usables.Given as goal

abbrev pub invariant-loop-s : goal.invariant-loop-s
invariant-loop-s l = Over (λ k. min l.m (ones (get_or l.map k 0))) 0 l.s l.initial.list l.list
