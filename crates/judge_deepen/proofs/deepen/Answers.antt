-- Each turn takes one row more from the sets with few enough rows to its pins, and from the map to the next.
use mathlib.Core.Path.{◌≡◌}
use Prim.Native.Nat.{◌<◌}
use native.Mathlib.Omega.{arith}
use Rattle.std.proofs.lemmas.List.{get_or-take, length-take}
use Rattle.table.proofs.Accepted.{sound_model, divides_mod}
use Rattle.judge_first.proofs.Sequential.{sequential}
use Rattle.judge_deepen.proofs.Pass.{pass_step, first_pass, last_pass}
use Rattle.judge_deepen.proofs.deepen.Goals as goal

pub loop-i-init : goal.loop-i-init
loop-i-init c = λ A S held. first_pass _ A _ (sequential c.args.a.table) held c.few_enough.ensures

pub row_pass-changed-requires : goal.row_pass-changed-requires
row_pass-changed-requires c =
    let f = c.args.a.accepted in
    let t = c.args.a.table in
    let i = c.loop-i.i in
    let k : i < t.count = omega (arith, length-take t.count t.rows) in
    rw (get_or-take t.count t.rows i _ k)
    (omega (arith, f.some i k, f.room i k, f.apart i k), f.apart i k, divides_mod _ _ f i k, omega arith, omega arith)

pub loop-i-preserved : goal.loop-i-preserved
loop-i-preserved c =
    let f = c.args.a.accepted in
    let t = c.args.a.table in
    let i = c.loop-i.i in
    let k : i < t.count = omega (arith, length-take t.count t.rows) in
    λ A S held.
    pass_step _ A _ i (sound_model _ _ f) k (divides_mod _ _ f i k) S (c.loop-i.invariant A S held)
    (rw (get_or-take t.count t.rows i _ k) at c.row_pass-changed.ensures)

pub returns : goal.returns
returns c =
    let e : c.loop-i.i ≡ c.args.a.table.count = omega (arith, length-take c.args.a.table.count c.args.a.table.rows) in
    λ A S held. last_pass _ A _ e held c.few_enough.ensures (c.loop-i.invariant A S held)
