-- The limits of a task file, its form, and the bytes of its parts. src/limits.rt has the same numbers for the code; the proofs hold them together.
use Rattle.std.specs.Prelude.{ℕ, ◌+◌, ◌*◌}

-- "number of entries n, 1 to 64"
abbrev pub most_entries : ℕ
most_entries = 64

-- "At most 65,535 bytes"
abbrev pub most_bytes : ℕ
most_bytes = 65535

-- "Bytes 2 and 3: form, 1"
abbrev pub the_form : ℕ
the_form = 1

-- the file's first bytes: its number of entries and its form
abbrev pub head_bytes : ℕ
head_bytes = 4

-- "n entries of 12 bytes"
abbrev pub entry_bytes : ℕ
entry_bytes = 12

-- where the first n entries end: entry n begins there, and after the last entry "the first [body] starts at 4 + 12n"
abbrev pub after_entries : ℕ → ℕ
after_entries n = head_bytes + entry_bytes * n
