-- Puts that have two faults, and where the new entry goes, by computing.
use mathlib.Core.Path.{◌≡◌, refl}
use Prim.Native.Nat.{ℕ}
use mathlib.Core.List.{List, [], ◌∷◌, ◌++◌}
use Rattle.basics.specs.Range.{inside}
use Rattle.basics.specs.Least.{least, least_from}
use Rattle.basics.specs.When.{when, unless}
use Rattle.refusal.specs.Refusal.{refuse}
use Rattle.refusal.specs.Order.{first, in_turn}
use Rattle.table.specs.Rows.{no_table}
use Rattle.table.specs.Check.{check_of, check_rows}
use Rattle.file_bytes.specs.Number.{at16, at32, bytes16, bytes32}
use Rattle.file_bytes.specs.Sum.{sum_of, sum_from}
use Rattle.file_kinds.specs.Kinds.{kind_of}
use Rattle.file_entries.specs.Entries.{count_of, form_of, kind_at, number_at, start_at, length_at, sum_at, body_at, place_of, seek_in, kind_under}
use Rattle.file_contents.specs.Contents.{head_refusal, entry_refusal, left_over, contents_refusal}
use Rattle.file_contents.specs.File.{Entry, entry_by}
use Rattle.file_check.specs.Check.{part_refusal, file_refusal}
use Rattle.file_new.specs.New.{put_entry, put_refusal}

-- a file of one empty note, under number 7
abbrev note : List ℕ
note = bytes16 1 ++ (bytes16 1 ++ (bytes16 128 ++ (bytes16 7 ++ (bytes16 16 ++ (bytes16 0 ++ bytes32 0)))))

-- no file, and no table either: 9 of the file and not 1
pub file_first : put_refusal [] 7 no_table 0 ≡ refuse 9
unfolding put_refusal file_refusal contents_refusal head_refusal when unless first in_turn count_of at16 check_of check_rows inside
file_first = refl

-- no table, under a note's number: 1 and not 17
pub table_first : put_refusal note 7 no_table 0 ≡ refuse 1
unfolding put_refusal file_refusal part_refusal contents_refusal head_refusal entry_refusal left_over when unless first in_turn kind_of count_of form_of kind_at number_at start_at length_at sum_at body_at place_of seek_in kind_under at16 at32 sum_of sum_from least least_from check_of check_rows inside
table_first = refl

abbrev entry : ℕ → ℕ → Entry
entry kind number = entry_by kind number []

-- the new entry takes the place of the one that has its number, and the others keep theirs
pub replaced : put_entry (entry 128 5 ∷ entry 1 7 ∷ entry 128 6 ∷ []) (entry 2 7) ≡ entry 128 5 ∷ entry 2 7 ∷ entry 128 6 ∷ []
unfolding put_entry
replaced = refl

-- or it comes last
pub added : put_entry (entry 128 5 ∷ entry 128 6 ∷ []) (entry 2 7) ≡ entry 128 5 ∷ entry 128 6 ∷ entry 2 7 ∷ []
unfolding put_entry
added = refl
