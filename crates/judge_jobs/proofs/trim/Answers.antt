-- Few that lose the row are taken from the end; else all after the c-th slot that has it.
use mathlib.Core.Path.{◌≡◌, ap}
use mathlib.Core.Bool.{false}
use Prim.Native.Nat.{ℕ, ◌+◌, ◌-◌, ◌≤◌}
use native.Mathlib.Omega.{arith}
use lib.ListN.{length}
use Rattle.sets.specs.Word.{put}
use Rattle.judge_jobs.specs.Passes.{putting}
use Rattle.judge_jobs.proofs.Trimmed.{trimmed}
use Rattle.judge_jobs.proofs.Window.{window_length, window_slot, put_over}
use Rattle.judge_jobs.proofs.trim.Goals as goal

pub returns : goal.returns
returns c =
    let r = c.reach-n.ensures in
    let n : ℕ = c.reach-n.result in
    let l = c.args.pins.now in
    let k : ℕ = length l - n in
    let h : n + k ≤ length l = omega (arith, r.0) in
    let e : n + k ≡ length l = omega (arith, r.0) in
    trimmed _ _ _ _ r.0 r.1 (rw e at (put_over n k l h {g = putting c.args.i (λ s. false) l} (window_length n k l h) c.take_out.ensures (λ s m. ap (put c.args.i false) (window_slot n k l h s m))))
