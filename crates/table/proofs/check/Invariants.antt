-- The rows so far are seen.
use Rattle.table.specs.Rows.{row_at, beside_of}
use Rattle.table.specs.Seen.{seen}
use Rattle.table.proofs.SoFar.{SoFar}
use Rattle.table.proofs.check.Given as goal

abbrev pub invariant-loop-row : goal.invariant-loop-row
invariant-loop-row l = SoFar (beside_of l.fn.t) (row_at l.fn.t) l.row-index (seen l.s)
