-- The check of a file: the contents, "then each entry in turn 14 and, for a table, 15 and 1 to 7".
use Rattle.std.specs.Prelude.{Result, Ok, Err, cond, ℕ, List, eqb}
use Rattle.refusal.specs.declared.Refusal.{Refusal}
use Rattle.refusal.specs.Refusal.{Numbered, refuse, none, in_entry}
use Rattle.file_bytes.specs.Sum.{sum_of}
use Rattle.basics.specs.When.{when, unless}
use Rattle.refusal.specs.Told.{told}
use Rattle.refusal.specs.Order.{first, in_turn}
use Rattle.file_kinds.specs.Kinds.{kind_of, is_table}
use Rattle.file_entries.specs.Entries.{count_of, kind_at, sum_at, body_at}
use Rattle.file_contents.specs.Contents.{contents_refusal}
use Rattle.file_bodies.specs.Refusal.{body_refusal}

-- 14: "wrong sum"; "and, for a table, 15 and 1 to 7"
unfoldable pub part_refusal : List ℕ → ℕ → Numbered
part_refusal s i =
    unless (eqb (sum_of (body_at s i)) (sum_at s i)) (refuse 14)
    (when (is_table (kind_of (kind_at s i))) (body_refusal (body_at s i)) none)

-- the file's refusal, or none
unfoldable pub file_refusal : List ℕ → Numbered
file_refusal s = first (contents_refusal s) (in_turn (λ i. in_entry i (part_refusal s i)) (count_of s))

-- the numbers of an answer: "the file's check gives its number of entries", and "All other numbers of a refused answer are 0"
pub record Numbers : Type 0 where
  pub refusal : Numbered
  pub entries : ℕ

-- an answer with a number of entries, and one with a refusal
abbrev pub counted : ℕ → Numbers
counted n = record { refusal = none; entries = n }

abbrev pub refused_by : Numbered → Numbers
refused_by r = record { refusal = r; entries = 0 }

-- this paper's numbers for each case of the answer
abbrev pub numbers : Result ℕ Refusal → Numbers
numbers (Ok n) = counted n
numbers (Err r) = refused_by (told r)

unfoldable pub check_file : List ℕ → Numbers
check_file s = cond (eqb (file_refusal s).no 0) (counted (count_of s)) (refused_by (file_refusal s))
