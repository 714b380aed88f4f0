-- Six numbers, each right after the one before, are the head; and then the body.
use Rattle.std.proofs.Common.{List, ℕ, ◌+◌, length, ap, ◌∙◌, arith}
use Rattle.file_bytes.specs.Over.{over}
use Rattle.file_bytes.proofs.Overs.{next_over}
use Rattle.file_entries.specs.Limits.{after_entries}
use Rattle.file_contents.specs.File.{Entry, head_by, head_of}
use Rattle.file_write.proofs.Parts.write_entry.Goals as goal

pub returns-clause-written : goal.returns-clause-written
unfolding head_of
returns-clause-written c =
    let a = c.args in
    let o = a.out.now in
    let at = c.after_entries-at.result in
    let same = c.after_entries-at.ensures.same in
    let e = c.entry-entry.result in
    let p₂ = next_over o _ _ at (at + 2) _ _ c.put16.ensures c.put16-2.ensures (omega arith) (omega arith) in
    let p₃ = next_over o _ _ at (at + 4) _ _ p₂ c.put16-3.ensures (omega arith) (omega arith) in
    let p₄ = next_over o _ _ at (at + 6) _ _ p₃ c.put16-4.ensures (omega arith) (omega arith) in
    let p₅ = next_over o _ _ at (at + 8) _ _ p₄ c.put16-5.ensures (omega arith) (omega arith) in
    let p₆ = next_over o _ _ at (at + 10) _ _ p₅ c.put16-6.ensures (omega arith) (omega arith) in
    c.put_bytes.ensures
    ∙ ap (λ (l : List ℕ). over l a.start e.body.now) (p₆ ∙ λ k. over o (same k) (head_by e.kind e.number a.start (length e.body.now) (c.body_sum-sum.ensures k)))
    ∙ ap (λ (e : Entry). over (over o (after_entries a.j) (head_of a.start e)) a.start e.body) c.entry-entry.ensures
