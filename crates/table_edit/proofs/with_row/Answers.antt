-- The row is stored behind the others, and zeros behind it.
use mathlib.Core.Path.{refl}
use native.Mathlib.Omega.{arith}
use Rattle.table_edit.proofs.Rows.{row_put}
use Rattle.table_edit.proofs.with_row.Goals as goal

pub returns : goal.returns
returns c = row_put c.args.t (omega arith) c.args.row _ _ _ c.requires c.no_row.ensures (c.fill.ensures.after (λ y e. e)) refl
