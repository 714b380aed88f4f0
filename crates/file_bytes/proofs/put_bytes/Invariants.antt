-- There is room for all, and the first k bytes of the source are written over the output.
use Rattle.std.proofs.Common.{◌≡◌, ◌+◌, ◌≤◌, length, take}
use Rattle.file_bytes.specs.Over.{over}
use Rattle.file_bytes.proofs.put_bytes.Given as goal

abbrev pub invariant-loop-k : goal.invariant-loop-k
invariant-loop-k l = record {
  room : l.at + length l.src ≤ length l.initial.out;
  long : length l.out ≡ length l.initial.out;
  written : l.out ≡ over l.initial.out l.at (take l.k l.src);
}
