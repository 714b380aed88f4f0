-- What stands in the contents of the file s.
use Rattle.std.specs.Prelude.{cond, ℕ, zero, suc, ◌+◌, List, take, drop, ltb, eqb, Option, Some, None}
use Rattle.basics.specs.Least.{least}
use Rattle.file_bytes.specs.Number.{at16, at32}
use Rattle.file_kinds.specs.declared.Kind.{Kind}
use Rattle.file_entries.specs.declared.Entry.{Entry}
use Rattle.file_entries.specs.Limits.{after_entries}
use Rattle.file_kinds.specs.Kinds.{kind_of}

-- "Bytes 0 and 1: number of entries n"
unfoldable pub count_of : List ℕ → ℕ
count_of s = at16 s 0

-- "Bytes 2 and 3: form"
unfoldable pub form_of : List ℕ → ℕ
form_of s = at16 s 2

-- "Then n entries of 12 bytes: kind (2 bytes), number (2), start (2), length (2), sum (4)."
unfoldable pub kind_at : List ℕ → ℕ → ℕ
kind_at s i = at16 s (after_entries i)

unfoldable pub number_at : List ℕ → ℕ → ℕ
number_at s i = at16 s (after_entries i + 2)

unfoldable pub start_at : List ℕ → ℕ → ℕ
start_at s i = at16 s (after_entries i + 4)

unfoldable pub length_at : List ℕ → ℕ → ℕ
length_at s i = at16 s (after_entries i + 6)

unfoldable pub sum_at : List ℕ → ℕ → ℕ
sum_at s i = at32 s (after_entries i + 8)

-- entry i, read
abbrev pub entry_read : List ℕ → ℕ → Entry
entry_read s i = record {
  kind = kind_at s i;
  number = number_at s i;
  start = start_at s i;
  length = length_at s i;
  sum = sum_at s i;
}

-- the bytes that entry i calls its body
unfoldable pub body_at : List ℕ → ℕ → List ℕ
body_at s i = take (length_at s i) (drop (start_at s i) s)

-- where the body of entry i must start: "the first starts at 4 + 12n, each next one where the last ended"
unfoldable pub place_of : List ℕ → ℕ → ℕ
place_of s zero = after_entries (count_of s)
place_of s (suc i) = place_of s i + length_at s i

-- the first of n entries that has the number, and n where none has
unfoldable pub seek_in : List ℕ → ℕ → ℕ → ℕ
seek_in s number n = least (λ i. eqb (number_at s i) number) n

-- the entry that has the number, and the count where none has
abbrev pub seek_of : List ℕ → ℕ → ℕ
seek_of s number = seek_in s number (count_of s)

-- the answer to a search of n entries that came to entry i: none where i is n
unfoldable pub sought : ℕ → ℕ → Option ℕ
sought i n = cond (ltb i n) (Some i) None

-- the kind of the entry that has the number; none where no entry has it, or its kind is refused
unfoldable pub kind_under : List ℕ → ℕ → Option Kind
kind_under s number = cond (ltb (seek_of s number) (count_of s)) (kind_of (kind_at s (seek_of s number))) None
