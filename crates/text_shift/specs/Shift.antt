-- The contract of the shift check on a file that is lent, with its two lists and its output.
use Rattle.std.specs.Prelude.{◌≡◌, List, ℕ, ◌*◌, ◌≤◌, length}
use Rattle.file_bytes.specs.Over.{over}
use Rattle.file_entries.specs.Limits.{most_entries}
use Rattle.text_lines.specs.Line.{longest}
use Rattle.text_shift.specs.Text.{text_of}
use Rattle.text_shift.specs.Lists.{Lists, lists_after}

-- no line is longer than the longest, so the lines of as many entries as a file may have have room in 4,096 bytes
abbrev pub text_room : ℕ
text_room = longest * most_entries

abbrev pub lists : List ℕ → List ℕ → Lists
lists map pins = record { map = map; pins = pins }

-- the text at the start of the output, and its length; both lists as the tables in turn leave them
pub record Shifted (file map pins out map' pins' out' : List ℕ) (r : ℕ) : Type 0 where
  pub answer : r ≡ length (text_of file)
  pub output : out' ≡ over out 0 (text_of file)
  -- every text has room in the output
  pub room : length (text_of file) ≤ text_room
  pub lists_are : lists map' pins' ≡ lists_after file (lists map pins)
