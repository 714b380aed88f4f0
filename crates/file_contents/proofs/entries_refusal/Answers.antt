-- The entries passed so far are in order, and the next body must start at the place.
use Rattle.std.proofs.Common.{◌≡◌, ◌-◌, sym, ap, ◌∙◌, arith, below_none, below_more}
use Rattle.refusal.specs.Refusal.{refuse, in_entry}
use Rattle.refusal.proofs.Told.{number_some}
use Rattle.file_entries.specs.Entries.{length_at, place_of}
use Rattle.file_entries.proofs.Parts.{place_first, place_next}
use Rattle.file_contents.proofs.Fine.{head_is_fine, entry_is_fine}
use Rattle.file_contents.proofs.Steps.{turn_refused, left_over_lem, all_fine}
use Rattle.file_contents.proofs.entries_refusal.Goals as goal

pub loop-i-init : goal.loop-i-init
loop-i-init c =
    let h = head_is_fine _ c.requires in
    let e = c.after_entries-place.ensures.same ∙ place_first _ _ c.count-n.ensures in
    record { head = h; placed = e; reached = omega arith; fine = below_none _ }

pub returns-in-Err : goal.returns-in-Err
returns-in-Err c =
    let l = c.loop-i in
    let e = c.in-Err.ensures in
    c.in_entry.ensures
    ∙ ap (in_entry l.i) (c.from.ensures ∙ ap refuse e)
    ∙ turn_refused _ _ c.count-n.ensures l.i l.invariant.fine (λ z. number_some c.in-Err.rule (e ∙ z)) c.loop-i-test.true

pub loop-i-preserved : goal.loop-i-preserved
loop-i-preserved c =
    let l = c.loop-i in
    let s = c.args.s.now in
    let fine = entry_is_fine s l.i (sym c.in_default.ensures) in
    let n : c.length_at.result ≡ length_at s l.i = c.length_at.ensures in
    let next = place_next s l.i in
    record { head = l.invariant.head; placed = omega arith; reached = omega arith; fine = below_more _ _ l.invariant.fine (sym c.in_default.ensures) }

pub returns-then-place-s : goal.returns-then-place-s
returns-then-place-s c =
    let l = c.loop-i in
    let e : l.i ≡ c.count-n.result = omega arith in
    c.in_entry-then-place-s.ensures
    ∙ ap (in_entry (c.count-n.result - 1)) c.from-then-place-s.ensures
    ∙ left_over_lem _ _ c.count-n.ensures (λ k h. l.invariant.fine k (omega arith)) (λ q. c.if-place-s.true (l.invariant.placed ∙ ap (place_of _) e ∙ q))

pub returns : goal.returns
returns c =
    let l = c.loop-i in
    let e : l.i ≡ c.count-n.result = omega arith in
    all_fine _ _ c.count-n.ensures (λ k h. l.invariant.fine k (omega arith)) (ap (place_of _) (sym e) ∙ sym l.invariant.placed ∙ c.if-place-s.false)
