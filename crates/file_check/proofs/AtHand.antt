-- Files with two faults, and numbers that no table has, by computing.
use mathlib.Core.Path.{◌≡◌, refl}
use Prim.Native.Nat.{ℕ}
use mathlib.Core.List.{List, [], ◌∷◌, ◌++◌}
use Rattle.basics.specs.Range.{inside}
use Rattle.basics.specs.Least.{least, least_from}
use Rattle.basics.specs.When.{when, unless}
use Rattle.refusal.specs.Refusal.{refuse, in_entry}
use Rattle.refusal.specs.Order.{first, in_turn}
use Rattle.table.specs.Rows.{no_table}
use Rattle.file_bytes.specs.Number.{at16, at32, bytes16, bytes32}
use Rattle.file_bytes.specs.Sum.{sum_of, sum_from}
use Rattle.file_kinds.specs.Kinds.{kind_of}
use Rattle.file_entries.specs.Entries.{count_of, form_of, kind_at, number_at, start_at, length_at, sum_at, body_at, place_of, seek_in, kind_under}
use Rattle.file_contents.specs.Contents.{head_refusal, entry_refusal, left_over, contents_refusal}
use Rattle.file_bodies.specs.Refusal.{body_refusal}
use Rattle.file_check.specs.Check.{part_refusal, file_refusal}
use Rattle.file_check.specs.Find.{find_refusal, find_of}

-- a file of one entry, under number 7, whose body has four bytes
abbrev file : ℕ → ℕ → List ℕ → List ℕ
file kind sum body =
    bytes16 1 ++ (bytes16 1 ++ (bytes16 kind ++ (bytes16 7 ++ (bytes16 16 ++ (bytes16 4 ++ (bytes32 sum ++ body))))))

-- a table's body with a wrong sum, and a zero byte that is 1: 14 and not 15
pub sum_first : file_refusal (file 1 0 (1 ∷ 1 ∷ 0 ∷ 1 ∷ [])) ≡ in_entry 0 (refuse 14)
unfolding file_refusal part_refusal body_refusal contents_refusal head_refusal entry_refusal left_over when unless first in_turn kind_of count_of form_of kind_at number_at start_at length_at sum_at body_at place_of seek_in at16 at32 sum_of sum_from least least_from inside
sum_first = refl

-- a note with a wrong sum
pub note_summed : file_refusal (file 128 0 (1 ∷ 1 ∷ 0 ∷ 1 ∷ [])) ≡ in_entry 0 (refuse 14)
unfolding file_refusal part_refusal body_refusal contents_refusal head_refusal entry_refusal left_over when unless first in_turn kind_of count_of form_of kind_at number_at start_at length_at sum_at body_at place_of seek_in at16 at32 sum_of sum_from least least_from inside
note_summed = refl

-- a number that a note has, and one that no entry has: 17, and a table of zeros
pub note_sought : find_of (file 128 0 (0 ∷ 0 ∷ 0 ∷ 0 ∷ [])) 7 ≡ record { refusal = refuse 17; table = no_table }
unfolding find_of find_refusal file_refusal part_refusal contents_refusal head_refusal entry_refusal left_over when unless first in_turn kind_of count_of form_of kind_at number_at start_at length_at sum_at body_at place_of seek_in kind_under at16 at32 sum_of sum_from least least_from inside
note_sought = refl

pub none_sought : find_of (file 128 0 (0 ∷ 0 ∷ 0 ∷ 0 ∷ [])) 8 ≡ record { refusal = refuse 17; table = no_table }
unfolding find_of find_refusal file_refusal part_refusal contents_refusal head_refusal entry_refusal left_over when unless first in_turn kind_of count_of form_of kind_at number_at start_at length_at sum_at body_at place_of seek_in kind_under at16 at32 sum_of sum_from least least_from inside
none_sought = refl
