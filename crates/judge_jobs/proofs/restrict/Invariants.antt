-- In the slots so far the map has the row where the pins have it, and a change of a word is noticed.
use Rattle.basics.specs.Over.{Over}
use Rattle.judge_jobs.specs.First.{in_slot}
use Rattle.judge_jobs.specs.Passes.{putting, Noticed}
use Rattle.judge_jobs.proofs.restrict.Given as goal

abbrev pub invariant-loop-s : goal.invariant-loop-s
invariant-loop-s l = record {
  kept : Over (putting l.i (in_slot l.i l.pins) l.initial.map) 0 l.s l.initial.map l.map;
  told : Noticed 0 l.s l.initial.map l.map l.changed;
}
