-- The windows that end before s have added the execution time, and s is a window's end.
use mathlib.Core.Path.{◌≡◌}
use Prim.Native.Nat.{◌+◌, ◌-◌, ◌%◌, ◌<◌}
use Rattle.judge_scan.specs.Dues.{falling, Falls}
use Rattle.judge_scan.proofs.row_dues.Given as goal

abbrev pub invariant-loop-s : goal.invariant-loop-s
invariant-loop-s l = record {
  at_end : l.s % l.row.period ≡ l.row.deadline - 1;
  near : l.s < l.h + l.row.period;
  added : Falls (falling l.row) l.s l.initial.list l.list;
}

abbrev pub decreases-loop-s : goal.decreases-loop-s
decreases-loop-s l = l.h + l.row.period - l.s
