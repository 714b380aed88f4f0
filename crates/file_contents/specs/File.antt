-- A task file as a list of entries, and its bytes: "Contents first, then bodies."
use Rattle.std.specs.Prelude.{ℕ, zero, suc, ◌+◌, List, [], ◌∷◌, ◌++◌, length}
use Rattle.file_bytes.specs.Number.{bytes16, bytes32}
use Rattle.file_bytes.specs.Sum.{sum_of}
use Rattle.file_entries.specs.Limits.{the_form, after_entries}
use Rattle.file_entries.specs.Entries.{count_of, kind_at, number_at, body_at}

pub record Entry : Type 0 where
  pub kind : ℕ
  pub number : ℕ
  pub body : List ℕ

abbrev pub entry_by : ℕ → ℕ → List ℕ → Entry
entry_by kind number body = record { kind = kind; number = number; body = body }

-- "kind (2 bytes), number (2), start (2), length (2), sum (4)"
abbrev pub head_by : ℕ → ℕ → ℕ → ℕ → ℕ → List ℕ
head_by kind number start len sum = bytes16 kind ++ (bytes16 number ++ (bytes16 start ++ (bytes16 len ++ bytes32 sum)))

unfoldable pub head_of : ℕ → Entry → List ℕ
head_of start e = head_by e.kind e.number start (length e.body) (sum_of e.body)

-- the entries' twelve bytes each, the first body starting at a place, "each next one where the last ended"
unfoldable pub heads_of : ℕ → List Entry → List ℕ
heads_of start [] = []
heads_of start (e ∷ es) = head_of start e ++ heads_of (start + length e.body) es

-- "The bodies follow in the order of the contents with no gap"
unfoldable pub bodies_of : List Entry → List ℕ
bodies_of [] = []
bodies_of (e ∷ es) = e.body ++ bodies_of es

-- "Bytes 0 and 1: number of entries n, 1 to 64. Bytes 2 and 3: form, 1. Then n entries of 12 bytes"; "the first starts at 4 + 12n"
unfoldable pub encode : List Entry → List ℕ
encode es = (bytes16 (length es) ++ bytes16 the_form) ++ (heads_of (after_entries (length es)) es ++ bodies_of es)

-- entry i as the contents give it
unfoldable pub entry_at : List ℕ → ℕ → Entry
entry_at s i = entry_by (kind_at s i) (number_at s i) (body_at s i)

-- k entries from entry i on
unfoldable pub entries_from : List ℕ → ℕ → ℕ → List Entry
entries_from s i zero = []
entries_from s i (suc k) = entry_at s i ∷ entries_from s (suc i) k

-- the entries that the file s says it has
unfoldable pub entries_of : List ℕ → List Entry
entries_of s = entries_from s 0 (count_of s)
