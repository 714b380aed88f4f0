-- The row is there, in an accepted table.
use mathlib.Core.Path.{sym, ap}
use native.Mathlib.Omega.{arith}
use Rattle.refusal.specs.Refusal.{Numbered}
use Rattle.table.proofs.Accepted.{accepted}
use Rattle.table_edit.proofs.remove.Goals as goal

pub without_row-fewer-requires : goal.without_row-fewer-requires
without_row-fewer-requires c =
    let given = sym (ap (λ (r : Numbered). r.no) c.in_ok-refusal_of.ensures) in
    (omega arith, (accepted c.args.t given).count_high)
