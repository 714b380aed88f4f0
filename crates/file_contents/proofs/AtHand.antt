-- Files with two faults, by computing: the refusal that comes first is the one that is given.
use mathlib.Core.Path.{◌≡◌, refl}
use Prim.Native.Nat.{ℕ}
use mathlib.Core.List.{List, [], ◌∷◌, ◌++◌}
use Rattle.basics.specs.Range.{inside}
use Rattle.basics.specs.Least.{least, least_from}
use Rattle.basics.specs.When.{when, unless}
use Rattle.refusal.specs.Refusal.{refuse, in_entry}
use Rattle.refusal.specs.Order.{first, in_turn}
use Rattle.file_bytes.specs.Number.{at16, bytes16, bytes32}
use Rattle.file_kinds.specs.Kinds.{kind_of}
use Rattle.file_entries.specs.Entries.{count_of, form_of, kind_at, number_at, start_at, length_at, place_of, seek_in}
use Rattle.file_contents.specs.Contents.{head_refusal, entry_refusal, left_over, contents_refusal}

-- the file's first bytes, and those of an entry whose body is empty or missing
abbrev head : ℕ → ℕ → List ℕ
head n form = bytes16 n ++ bytes16 form

abbrev entry : ℕ → ℕ → ℕ → ℕ → List ℕ
entry kind number start len = bytes16 kind ++ (bytes16 number ++ (bytes16 start ++ (bytes16 len ++ bytes32 0)))

-- no entry, in another form: 10 and not 11
pub form_first : contents_refusal (head 0 2) ≡ refuse 10
unfolding contents_refusal head_refusal entry_refusal left_over when unless first in_turn count_of form_of at16 inside
form_first = refl

-- a kind that is refused, and a start in the wrong place: 12 and not 13
pub kind_first : contents_refusal (head 1 1 ++ entry 2 7 15 0) ≡ in_entry 0 (refuse 12)
unfolding contents_refusal head_refusal entry_refusal left_over when unless first in_turn kind_of count_of form_of kind_at number_at start_at length_at place_of seek_in least least_from at16 inside
kind_first = refl

-- a body past the end, under a number that is used: 13 and not 16
pub end_first : contents_refusal (head 2 1 ++ (entry 128 7 28 0 ++ entry 128 7 28 1)) ≡ in_entry 1 (refuse 13)
unfolding contents_refusal head_refusal entry_refusal left_over when unless first in_turn kind_of count_of form_of kind_at number_at start_at length_at place_of seek_in least least_from at16 inside
end_first = refl

-- a number that is used, and a byte left over: 16 and not 13
pub entries_first : contents_refusal (head 2 1 ++ (entry 128 7 28 0 ++ (entry 128 7 28 0 ++ (0 ∷ [])))) ≡ in_entry 1 (refuse 16)
unfolding contents_refusal head_refusal entry_refusal left_over when unless first in_turn kind_of count_of form_of kind_at number_at start_at length_at place_of seek_in least least_from at16 inside
entries_first = refl
