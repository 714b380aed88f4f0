-- m, x and the count first, then one row more, then all.
use Rattle.std.proofs.Common.{◌≡◌, refl, ◌+◌, ◌*◌, replicate, arith}
use Rattle.table_row.specs.Limits.{most_rows}
use Rattle.c_numbers.proofs.Table.{head_written, row_written, table_written}
use Rattle.c_numbers.proofs.lent.numbers.Goals as goal

pub loop-i-init : goal.loop-i-init
loop-i-init c = head_written c.args.t (omega arith) (replicate (3 + 3 * most_rows) 0) refl

pub loop-i-preserved : goal.loop-i-preserved
loop-i-preserved c =
    let l = c.loop-i in
    row_written c.args.t (omega arith) l.all l.i (omega arith) l.invariant

pub returns : goal.returns
returns c =
    let l = c.loop-i in
    let e : 3 + 3 * l.i ≡ 3 + 3 * most_rows = omega arith in
    table_written c.args.t (omega arith) l.all (rw e at l.invariant)
