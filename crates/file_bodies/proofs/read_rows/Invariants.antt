-- The first i rows are read, and zeros stand after them.
use Rattle.std.proofs.Common.{◌≡◌}
use Rattle.table.specs.Rows.{room_by}
use Rattle.file_bodies.specs.Body.{row_of}
use Rattle.file_bodies.proofs.read_rows.Given as goal

abbrev pub invariant-loop-i : goal.invariant-loop-i
invariant-loop-i l = l.rows ≡ room_by (row_of l.b) l.i
