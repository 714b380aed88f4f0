-- The two lent lists after a file: each table in turn is judged in them.
use Rattle.std.specs.Prelude.{cond, List, ℕ, zero, suc, eqb}
use Rattle.table.specs.declared.Table.{Table}
use Rattle.basics.specs.When.{when}
use Rattle.file_kinds.specs.Kinds.{kind_of, is_table}
use Rattle.file_entries.specs.Entries.{count_of, kind_at}
use Rattle.file_bodies.specs.Body.{table_at}
use Rattle.file_check.specs.Check.{file_refusal}
use Rattle.judge.specs.After.{map_after, pins_after}

pub record Lists : Type 0 where
  pub map : List ℕ
  pub pins : List ℕ

-- as the judge of a table leaves them
abbrev pub judged : Table → Lists → Lists
judged t l = record {
  map = map_after t t.depth l.map l.pins;
  pins = pins_after t t.depth l.map l.pins;
}

-- after entry i; a note is not read
unfoldable pub entry_lists : List ℕ → ℕ → Lists → Lists
entry_lists s i l = when (is_table (kind_of (kind_at s i))) (judged (table_at s i) l) l

-- after the first n entries
unfoldable pub lists_to : List ℕ → ℕ → Lists → Lists
lists_to s zero l = l
lists_to s (suc i) l = entry_lists s i (lists_to s i l)

-- after the file: "Every refusal leaves all lent memory untouched"
unfoldable pub lists_after : List ℕ → Lists → Lists
lists_after s l = cond (eqb (file_refusal s).no 0) (lists_to s (count_of s) l) l
