-- The rows so far are seen, as the list has them.
use Rattle.std.proofs.Common.{get_or}
use Rattle.table_row.specs.Row.{no_row}
use Rattle.table.specs.Seen.{seen}
use Rattle.table.proofs.SoFar.{SoFar}
use Rattle.awelodrun.proofs.tables.awelodrun_raw_check_list.Given as goal

abbrev pub invariant-loop-row : goal.invariant-loop-row
invariant-loop-row l = SoFar l.fn.beside (λ i. get_or l.rows i no_row) l.row-index (seen l.s)
