-- The first i rows are written after the four bytes.
use Rattle.std.proofs.Common.{◌≡◌, take}
use Rattle.file_bytes.specs.Over.{over}
use Rattle.file_bodies.specs.Layout.{body_head}
use Rattle.file_bodies.specs.Body.{rows_bytes}
use Rattle.file_bodies.proofs.put_rows.Given as goal

abbrev pub invariant-loop-i : goal.invariant-loop-i
invariant-loop-i l = l.out ≡ over l.initial.out body_head (rows_bytes (take l.i l.row-items))
