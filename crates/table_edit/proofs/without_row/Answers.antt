-- The later rows move up by one, and zeros stand behind them.
use native.Mathlib.Omega.{arith}
use Rattle.table_edit.proofs.Rows.{without_row}
use Rattle.table_edit.proofs.without_row.Goals as goal

pub returns : goal.returns
returns c =
    without_row c.args.t (omega arith) c.args.index _ _ _ _ c.requires.0 c.requires.1 c.copy_from_slice.ensures.len
    c.copy_from_slice.ensures.after c.no_row.ensures (c.fill.ensures.after (λ y e. e))
