-- Three numbers, each right after the one before.
use Prim.Native.Nat.{◌+◌}
use native.Mathlib.Omega.{arith}
use Rattle.file_bytes.proofs.Overs.{next_over}
use Rattle.file_bodies.specs.Body.{fields_bytes, row_bytes}
use Rattle.file_bodies.proofs.put_row.Goals as goal

pub returns : goal.returns
unfolding row_bytes fields_bytes
returns c =
    let a = c.args in
    let o = a.out.now in
    let p = next_over o _ _ a.at (a.at + 2) _ _ c.put16.ensures c.put16-2.ensures (omega arith) (omega arith) in
    next_over o _ _ a.at (a.at + 4) _ _ p c.put16-3.ensures (omega arith) (omega arith)
