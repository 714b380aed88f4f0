-- "For a file: 9, 10, 11; each entry in turn 12, 13, 16; then 13 for bytes left over"
use Rattle.std.specs.Prelude.{ℕ, ◌+◌, ◌-◌, List, length, leb, ltb, eqb}
use Rattle.refusal.specs.Refusal.{Numbered, refuse, none, in_entry}
use Rattle.basics.specs.Range.{inside}
use Rattle.basics.specs.When.{when, unless}
use Rattle.refusal.specs.Order.{first, in_turn}
use Rattle.file_entries.specs.Limits.{most_entries, most_bytes, the_form, head_bytes, after_entries}
use Rattle.file_kinds.specs.Kinds.{kind_of, is_refused}
use Rattle.file_entries.specs.Entries.{count_of, form_of, kind_at, number_at, start_at, length_at, place_of, seek_in}

-- 9: "file under 4 or over 65,535 bytes"; 10: "form not 1"; 11: "n outside 1 to 64, or contents longer than the file"
unfoldable pub head_refusal : List ℕ → ℕ
head_refusal s =
    unless (inside head_bytes (length s) most_bytes) 9
    (unless (eqb (form_of s) the_form) 10
    (unless (inside 1 (count_of s) most_entries) 11
    (unless (leb (after_entries (count_of s)) (length s)) 11 0)))

-- 12: "kind refused"; 13: "start not where it must be, or body past the end"; 16: "number already used by an earlier entry"
unfoldable pub entry_refusal : List ℕ → ℕ → ℕ
entry_refusal s i =
    when (is_refused (kind_of (kind_at s i))) 12
    (unless (eqb (start_at s i) (place_of s i)) 13
    (unless (leb (place_of s i + length_at s i) (length s)) 13
    (when (ltb (seek_in s (number_at s i) i) i) 16 0)))

-- 13: "bytes after the last body", which "gives the last entry"
unfoldable pub left_over : List ℕ → Numbered
left_over s = unless (eqb (place_of s (count_of s)) (length s)) (in_entry (count_of s - 1) (refuse 13)) none

abbrev pub entries_refusal : List ℕ → Numbered
entries_refusal s = first (in_turn (λ i. in_entry i (refuse (entry_refusal s i))) (count_of s)) (left_over s)

unfoldable pub contents_refusal : List ℕ → Numbered
contents_refusal s = first (refuse (head_refusal s)) (entries_refusal s)
