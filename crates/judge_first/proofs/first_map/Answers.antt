-- The spans up to the count are those of the rows that matter; each turn stores the word of one slot more.
use mathlib.Core.Path.{◌≡◌, ◌∙◌}
use Prim.Native.Nat.{◌<◌}
use native.Mathlib.Omega.{arith}
use lib.ListN.{length, take}
use Rattle.std.proofs.lemmas.List.{length-take}
use Rattle.basics.proofs.Overs.{over_more}
use Rattle.judge_first.proofs.Next.{used_at, windows_are}
use Rattle.judge_first.proofs.first_map.Goals as goal

pub first_word-requires-clause-positive : goal.first_word-requires-clause-positive
first_word-requires-clause-positive c =
    let f = c.args.a.accepted in
    let t = c.args.a.table in
    λ i l.
    let k : i < t.count = omega (arith, l, length-take t.count c.spans-spans.result) in
    rw (used_at c.spans-spans.ensures i k) (omega (arith, f.some i k, f.room i k, f.apart i k))

pub loop-s-preserved : goal.loop-s-preserved
loop-s-preserved c =
    let t = c.args.a.table in
    let e : length (take t.count c.spans-spans.result) ≡ t.count = omega (arith, length-take t.count c.spans-spans.result, c.args.a.accepted.count_high) in
    over_more c.loop-s.invariant (omega arith) (omega arith) (c.first_word.ensures ∙ windows_are c.spans-spans.ensures c.loop-s.s e)
