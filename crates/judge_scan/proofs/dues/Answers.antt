-- Row after row, what falls due of it is added.
use Prim.Native.Nat.{◌≤◌, ◌<◌}
use native.Mathlib.Omega.{arith}
use Rattle.std.proofs.lemmas.List.{get_or-take, length-take}
use Rattle.judge_scan.proofs.Rows.{falls_none, falls_more, rows_low}
use Rattle.judge_scan.proofs.dues.Goals as goal

pub loop-row-init : goal.loop-row-init
loop-row-init c = falls_none c.args.a.table _ _

pub row_dues-requires-clause-sums_fit : goal.row_dues-requires-clause-sums_fit
row_dues-requires-clause-sums_fit c =
    let f = c.args.a.accepted in
    let t = c.args.a.table in
    let i = c.loop-row.row-index in
    let k : i < t.count = omega (arith, length-take t.count t.rows) in
    let l : i ≤ t.count = omega arith in
    λ s b.
    rw (get_or-take t.count t.rows i _ k)
    (omega (arith, c.loop-row.invariant.mid s (omega arith) b, c.requires s b, rows_low t _ f i s l, f.count_high, f.room i k, f.apart i k, f.period_high i k))

pub loop-row-preserved : goal.loop-row-preserved
loop-row-preserved c =
    let t = c.args.a.table in
    let i = c.loop-row.row-index in
    let k : i < t.count = omega (arith, length-take t.count t.rows) in
    falls_more t i c.loop-row.invariant (rw (get_or-take t.count t.rows i _ k) at c.row_dues.ensures)
