-- For the proofs alone: the steps by which put comes to its new file and its refusal; and a count that put doesn't take, `new_count`.
use Rattle.std.specs.Prelude.{◌≡◌, cond, ℕ, ◌+◌, ◌<◌, List, Option, Some, None, length, slice_get, leb, ltb, eqb}
use Rattle.refusal.specs.Refusal.{Numbered, refuse, none}
use Rattle.table.specs.declared.Table.{Table}
use Rattle.basics.specs.When.{when, unless}
use Rattle.refusal.specs.Order.{first}
use Rattle.file_entries.specs.Limits.{most_entries, most_bytes}
use Rattle.file_write.specs.declared.Source.{Source}
use Rattle.file_write.specs.declared.Source.TheVariants.{New, Old}
use Rattle.table.specs.Check.{table_refusal}
use Rattle.file_check.specs.Check.{file_refusal}
use Rattle.file_new.specs.New.{note_has, new_entries}

-- the source of entry j of the new file, whose entry i is the new one
abbrev pub source_of : ℕ → ℕ → Source
source_of i j = cond (eqb j i) New (Old j)

-- the sources of as many entries as a file may have
pub record Sources (i : ℕ) (l : List Source) : Type 0 where
  pub many : length l ≡ most_entries
  pub each : (j : ℕ) → j < most_entries → slice_get l j ≡ Some (source_of i j)

-- how many entries there are with entry i replaced, or added after n
abbrev pub count_with : ℕ → ℕ → ℕ
count_with n i = cond (ltb i n) n (n + 1)

-- how many there are where the new one has a place, whatever it is, and where it has none
abbrev pub new_count : ℕ → Option ℕ → ℕ
new_count n (Some i) = n
new_count n None = n + 1

-- "the file, the new table 1 to 7, 17, then 11 for a 65th entry"
unfoldable pub early_refusal : List ℕ → ℕ → Table → Numbered
early_refusal s number t =
    first (file_refusal s)
    (first (table_refusal t)
    (when (note_has s number) (refuse 17)
    (unless (leb (length (new_entries s number t)) most_entries) (refuse 11) none)))

-- "9 for a file grown too long, 19"
unfoldable pub length_refusal : ℕ → ℕ → Numbered
length_refusal len room = unless (leb len most_bytes) (refuse 9) (unless (leb len room) (refuse 19) none)
