-- How many of the c are still to come.
use mathlib.Core.Path.{◌≡◌}
use Prim.Native.Nat.{◌+◌}
use Rattle.judge_jobs.specs.First.{in_slot, tally}
use Rattle.judge_jobs.proofs.reach.Given as goal

abbrev pub invariant-loop-s : goal.invariant-loop-s
invariant-loop-s l = l.left + tally (in_slot l.i l.pins) 0 l.s ≡ l.c
