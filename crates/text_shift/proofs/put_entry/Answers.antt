-- A note changes nothing; a table has the line of its verdict, and both lists as the judge leaves them.
use mathlib.Core.Path.{sym, ap, ◌∙◌}
use Rattle.file_kinds.specs.Kinds.{kind_of, is_table}
use Rattle.file_kinds.proofs.Tests.{table_said}
use Rattle.file_entries.specs.declared.Entry.{Entry}
use Rattle.text_shift.proofs.Texts.{entered_note, entered_table}
use Rattle.text_shift.proofs.put_entry.Goals as goal

pub returns-else-eq : goal.returns-else-eq
returns-else-eq c =
    let kind = ap is_table (c.kind_of.ensures ∙ ap (λ (e : Entry). kind_of e.kind) c.read-entry.ensures) in
    entered_note (sym kind ∙ table_said _ c.eq.ensures c.if-eq.false)

pub returns-then-eq : goal.returns-then-eq
returns-then-eq c =
    let kind = ap is_table (c.kind_of.ensures ∙ ap (λ (e : Entry). kind_of e.kind) c.read-entry.ensures) in
    entered_table
    (sym kind ∙ table_said _ c.eq.ensures c.if-eq.true)
    (ap (λ (e : Entry). e.number) c.read-entry.ensures)
    c.table_at-t.ensures
    c.told-map
    c.told-pins
    c.judge-v.ensures
    c.put_verdict.ensures
