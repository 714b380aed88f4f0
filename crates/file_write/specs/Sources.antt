-- What a file is written from: a list of sources, each an entry of an old file by its number, or the new entry.
use Rattle.std.specs.Prelude.{List, map, ℕ}
use Rattle.file_contents.specs.File.{Entry, entry_by, entry_at}
use Rattle.file_write.specs.declared.Source.{Source}
use Rattle.file_write.specs.declared.Source.TheVariants.{New, Old}
use Rattle.file_write.specs.declared.Entry.{Entry as Held}
use Rattle.file_write.specs.declared.Parts.{Parts}

-- the entry of a source, where s is the old file: the new one, or the old file's of that number
abbrev pub source_entry : List ℕ → Entry → Source → Entry
source_entry s new New = new
source_entry s new (Old i) = entry_at s i

-- the entries of the sources, in their order
abbrev pub entries_by : List ℕ → Entry → List Source → List Entry
entries_by s new sources = map (source_entry s new) sources

-- an entry that the code holds
abbrev pub held : Held → Entry
held e = entry_by e.kind e.number e.body.now

-- what the code writes from its parts
abbrev pub entry_in : Parts → Source → Entry
entry_in p source = source_entry p.old.now (held p.new) source

abbrev pub entries_in : Parts → List Entry
entries_in p = entries_by p.old.now (held p.new) p.sources.now
