-- The jobs released before `from` are done, and `from` is a release.
use mathlib.Core.Path.{◌≡◌}
use Prim.Native.Nat.{ℕ, ◌-◌, ◌%◌, ◌≤◌}
use Rattle.table_row.specs.declared.Row.{Row}
use Rattle.judge_jobs.specs.Passes.{RowDone}
use Rattle.judge_jobs.proofs.row_pass.Given as goal

-- the row, from its numbers as the loop has them
abbrev pub read : ℕ → ℕ → ℕ → Row
read period execution deadline = record { period = period; execution = execution; deadline = deadline }

abbrev pub invariant-loop-from : goal.invariant-loop-from
invariant-loop-from l = record {
  inside : l.from ≤ l.h;
  release : l.from % l.period ≡ 0;
  done : RowDone l.i (read l.period l.execution l.deadline) l.from l.initial.pins l.pins l.initial.map l.map l.changed;
}

abbrev pub decreases-loop-from : goal.decreases-loop-from
decreases-loop-from l = l.h - l.from
