-- A 33rd row is refused as the check refuses the table with it.
use mathlib.Core.Path.{sym, ap, ◌∙◌}
use native.Mathlib.Omega.{arith}
use Rattle.refusal.specs.Refusal.{Numbered}
use Rattle.table_edit.proofs.Steps.{add_full}
use Rattle.table_edit.proofs.add.Goals as goal

pub returns-then-t-ge-ROWS : goal.returns-then-t-ge-ROWS
returns-then-t-ge-ROWS c =
    let given = sym (ap (λ (r : Numbered). r.no) c.in_ok-refusal_of.ensures) in
    ap (λ (r : Numbered). record { refusal = r; table = c.args.t }) c.into.ensures ∙ add_full c.args.t c.args.row (omega arith) given (omega arith)
