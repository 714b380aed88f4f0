-- The slots so far are without the row.
use mathlib.Core.Bool.{false}
use Rattle.basics.specs.Over.{Over}
use Rattle.judge_jobs.specs.Passes.{putting}
use Rattle.judge_jobs.proofs.take_out.Given as goal

abbrev pub invariant-loop-w : goal.invariant-loop-w
invariant-loop-w l = Over (putting l.i (λ k. false) l.initial.pins) 0 l.w-index l.initial.pins l.pins
