-- No row is seen yet, then one row more, then all of the list.
use Rattle.std.proofs.Common.{◌≡◌, ℕ, List, length, get_or, sym, ap, subst, ◌+◌, ◌∙◌, arith}
use Rattle.table_row.specs.declared.Row.{Row}
use Rattle.table_row.specs.Row.{no_row}
use Rattle.table.specs.Seen.{seen}
use Rattle.table.proofs.SoFar.{SoFar, so_far_none, so_far_step}
use Rattle.table_list.proofs.Whole.{seen_all}
use Rattle.c_numbers.specs.Answers.{answer_of}
use Rattle.awelodrun.proofs.tables.awelodrun_raw_check_list.Goals as goal

-- row i of a list, which reads as a row of zeros past its end
abbrev row_in : List Row → ℕ → Row
row_in l i = get_or l i no_row

pub loop-row-init : goal.loop-row-init
loop-row-init c =
    let a = c.args in
    subst (SoFar a.beside (row_in a.rows.now) 0) (sym c.start-s.ensures) (so_far_none _ _)

pub loop-row-preserved : goal.loop-row-preserved
loop-row-preserved c =
    let a = c.args in
    let l = c.loop-row in
    subst (SoFar a.beside (row_in a.rows.now) (l.row-index + 1)) (sym c.step-s.ensures)
    (so_far_step (row_in a.rows.now) a.beside l.row-index (seen l.s) l.invariant)

pub returns : goal.returns
returns c =
    let a = c.args in
    let l = c.loop-row in
    let e : l.row-index ≡ length a.rows.now = omega arith in
    c.of_seen.ensures ∙ ap answer_of (seen_all a.beside a.rows.now (seen l.s) (rw e at l.invariant))
