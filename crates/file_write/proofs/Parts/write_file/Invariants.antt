-- The entries of the sources so far are written, and the next body starts at the place.
use Rattle.std.proofs.Common.{◌≡◌, ◌+◌, length, take}
use Rattle.file_bytes.specs.Over.{over}
use Rattle.file_entries.specs.Limits.{head_bytes, after_entries}
use Rattle.file_contents.specs.File.{heads_of, bodies_of}
use Rattle.file_write.specs.Sources.{held, entries_by}
use Rattle.file_write.proofs.Parts.write_file.Given as goal

abbrev pub invariant-loop-j : goal.invariant-loop-j
invariant-loop-j l =
    let at = after_entries (length l.self.sources.now) in
    let es = entries_by l.self.old.now (held l.self.new) (take l.j l.self.sources.now) in
    record {
      start : l.start ≡ at + length (bodies_of es);
      out : l.out ≡ over (over l.initial.out head_bytes (heads_of at es)) at (bodies_of es);
    }
