-- 17, where the entry that has the number is a note.
use Rattle.std.proofs.Common.{sym, ap, ◌∙◌}
use Rattle.file_kinds.specs.Kinds.{kind_of, is_table}
use Rattle.file_kinds.proofs.Tests.{table_said}
use Rattle.file_check.proofs.Steps.{find_note}
use Rattle.file_check.proofs.find.Goals as goal

pub returns : goal.returns
returns c =
    let k = c.kind_of.ensures ∙ ap kind_of c.kind_at.ensures in
    find_note _ _ c.into.result c.in_ok-i.i c.in_ok-file_refusal.ensures (sym c.in_ok-i.ensures.ok_part ∙ c.seek_of.ensures)
    (ap is_table (sym k) ∙ table_said _ c.eq.ensures c.if-eq.false) c.into.ensures
