-- Each turn puts the span of one row more at its place.
use mathlib.Core.Path.{◌≡◌}
use Prim.Native.Nat.{◌<◌}
use native.Mathlib.Omega.{arith}
use Rattle.table_row.specs.Row.{no_row}
use Rattle.std.proofs.lemmas.List.{get_or-take, length-take}
use Rattle.judge_first.proofs.Next.{spans_none, spans_more}
use Rattle.judge_first.proofs.spans.Goals as goal

pub loop-i-init : goal.loop-i-init
loop-i-init c = spans_none

pub loop-i-preserved : goal.loop-i-preserved
loop-i-preserved c =
    let t = c.args.a.table in
    let i = c.loop-i.i in
    let k : i < t.count = omega (arith, length-take t.count t.rows) in
    spans_more c.loop-i.invariant (omega (arith, k, c.args.a.accepted.count_high)) (rw (get_or-take t.count t.rows i no_row k) at c.span_of.ensures)

pub returns : goal.returns
returns c =
    let t = c.args.a.table in
    let e : c.loop-i.i ≡ t.count = omega (arith, length-take t.count t.rows, c.args.a.accepted.count_high) in
    rw e at c.loop-i.invariant
