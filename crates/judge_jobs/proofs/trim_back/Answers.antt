-- Each turn clears one slot more, from the end, and keeps count of what is left before it.
use Prim.Native.Nat.{◌-◌}
use native.Mathlib.Omega.{arith}
use Rattle.std.proofs.lemmas.Grind.{common_steps}
use Rattle.judge_jobs.specs.First.{in_slot}
use Rattle.judge_jobs.proofs.Tally.{tally_le, tally_back}
use Rattle.judge_jobs.proofs.Trimmed.{trimmed}
use Rattle.judge_jobs.proofs.trim_back.Goals as goal

pub returns-then-left-c : goal.returns-then-left-c
returns-then-left-c c =
    let v = c.loop-s.invariant in
    trimmed _ _ _ _ (omega arith) (omega (arith, v.counted)) v.cleared

pub loop-s-preserved : goal.loop-s-preserved
loop-s-preserved c =
    let n = tally_back (in_slot c.args.i c.args.pins.now) c.loop-s.s (omega arith) in
    let v = c.loop-s.invariant in
    let e = v.cleared.low (c.loop-s.s - 1) (omega arith) in
    record { enough = grind (arith, common_steps); counted = grind (arith, common_steps); cleared = grind (arith, common_steps) }

pub returns : goal.returns
returns c =
    let v = c.loop-s.invariant in
    trimmed _ _ _ _ (omega arith) (omega (arith, v.counted, tally_le (in_slot c.args.i c.args.pins.now) 0 c.loop-s.s)) v.cleared
