-- How many slots before s still have the row; from s on they are without it.
use mathlib.Core.Path.{◌≡◌}
use Prim.Native.Nat.{◌≤◌}
use mathlib.Core.Bool.{false}
use lib.ListN.{length}
use Rattle.basics.specs.Over.{Over}
use Rattle.judge_jobs.specs.First.{in_slot, tally}
use Rattle.judge_jobs.specs.Passes.{putting}
use Rattle.judge_jobs.proofs.trim_back.Given as goal

abbrev pub invariant-loop-s : goal.invariant-loop-s
invariant-loop-s l = record {
  enough : l.c ≤ l.left;
  counted : l.left ≡ tally (in_slot l.i l.initial.pins) 0 l.s;
  cleared : Over (putting l.i (λ k. false) l.initial.pins) l.s (length l.initial.pins) l.initial.pins l.pins;
}
