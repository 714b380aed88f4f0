-- The numbers as they came, and the rows as they are read.
use Rattle.std.proofs.Common.{ap, ◌∙◌, get_or, rules}
use Rattle.table.specs.Rows.{beside, table_by}
use Rattle.c_numbers.specs.Lent.{lent_row, lent_table}
use Rattle.basics.proofs.Arrays.{from_fn_made}
use Rattle.c_numbers.proofs.Table.{rows_mapped}
use Rattle.table_row.specs.Limits.{most_rows}
use Rattle.c_numbers.proofs.lent.read_table.Goals as goal

pub returns : goal.returns
unfolding lent_table
returns c =
    let l = c.args.l.now in
    ap (table_by (beside (get_or l 0 0) (get_or l 1 0)) (get_or l 2 0))
    (from_fn_made _ (lent_row l) _ (λ i y q k. search rules) _ _ c.from_fn.ensures.items ∙ rows_mapped (lent_row l) most_rows)
