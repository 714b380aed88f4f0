-- The bytes of the contents, and of the bodies of the sources so far.
use Rattle.std.proofs.Common.{◌≡◌, ◌+◌, ◌*◌, ◌≤◌, length, take}
use Rattle.file_entries.specs.Limits.{most_bytes, after_entries}
use Rattle.file_contents.specs.File.{bodies_of}
use Rattle.file_write.specs.Sources.{held, entries_by}
use Rattle.file_write.proofs.Parts.file_length.Given as goal

abbrev pub invariant-loop-source : goal.invariant-loop-source
invariant-loop-source l = record {
  len : l.len ≡ after_entries (length l.self.sources.now) + length (bodies_of (entries_by l.self.old.now (held l.self.new) (take l.source-index l.self.sources.now)));
  bound : l.len ≤ after_entries (length l.self.sources.now) + most_bytes * l.source-index;
}
