-- The worked file of 38 bytes, by computing: it is accepted with one entry, and has the table of number 7.
use mathlib.Core.Path.{◌≡◌, refl}
use Prim.Native.Nat.{ℕ}
use Rattle.std.specs.Prelude.{Ok}
use mathlib.Core.List.{List, [], ◌∷◌}
use Rattle.basics.specs.Range.{inside}
use Rattle.table_row.specs.declared.Row.{Row}
use Rattle.table.specs.declared.Table.{Table}
use Rattle.table.specs.Rows.{rows_by, room_by, beside, table_of}
use Rattle.table_row.specs.Row.{row_refusal, faulty}
use Rattle.table.specs.Check.{check_of, check_rows, check_each, check_frame}
use Rattle.refusal.specs.Refusal.{none}
use Rattle.table.specs.Frame.{frame_of, over_at}
use Rattle.basics.specs.Least.{least, least_from}
use Rattle.table_row.specs.Divisor.{divisor, divisor_in, multiple}
use Rattle.file_bytes.specs.Number.{at16, at32}
use Rattle.file_bytes.specs.Sum.{sum_of, sum_from}
use Rattle.basics.specs.When.{when, unless}
use Rattle.refusal.specs.Order.{first, in_turn}
use Rattle.file_kinds.specs.Kinds.{kind_of}
use Rattle.file_entries.specs.Entries.{count_of, form_of, kind_at, number_at, start_at, length_at, sum_at, body_at, place_of, seek_in, kind_under}
use Rattle.file_contents.specs.Contents.{head_refusal, entry_refusal, left_over, contents_refusal}
use Rattle.file_bodies.specs.Body.{row_of, body_table, table_at}
use Rattle.file_bodies.specs.Refusal.{body_refusal}
use Rattle.file_check.specs.Check.{part_refusal, file_refusal, numbers, check_file}
use Rattle.file_check.specs.Find.{find_refusal, find_of}

-- `01 00 01 00`, `01 00 07 00 10 00 16 00 1A 00 2D 01`, `02 01 03 00`, `02 00 01 00 01 00`, `03 00 02 00 02 00`, `04 00 02 00 03 00`
unfoldable pub worked : List ℕ
worked =
    1 ∷ 0 ∷ 1 ∷ 0 ∷ 1 ∷ 0 ∷ 7 ∷ 0 ∷ 16 ∷ 0 ∷ 22 ∷ 0 ∷ 26 ∷ 0 ∷ 45 ∷ 1 ∷ 2 ∷ 1 ∷ 3 ∷ 0 ∷ 2 ∷ 0 ∷ 1 ∷ 0 ∷ 1 ∷ 0 ∷ 3 ∷ 0 ∷ 2 ∷ 0 ∷ 2 ∷ 0 ∷ 4 ∷ 0 ∷ 2 ∷ 0 ∷ 3 ∷ 0 ∷ []

abbrev row : ℕ → ℕ → ℕ → Row
row p e d = record { period = p; execution = e; deadline = d }

-- m 2, x 1, rows (2,1,1) (3,2,2) (4,2,3)
unfoldable pub table : Table
table = table_of (beside 2 1) (row 2 1 1 ∷ row 3 2 2 ∷ row 4 2 3 ∷ [])

pub worked_checked : check_file worked ≡ numbers (Ok 1)
unfolding worked check_file file_refusal part_refusal body_refusal body_table room_by rows_by row_of contents_refusal head_refusal entry_refusal left_over when unless first in_turn kind_of count_of form_of kind_at number_at start_at length_at sum_at body_at place_of seek_in at16 at32 sum_of sum_from least least_from check_of check_rows check_each check_frame row_refusal faulty frame_of over_at divisor divisor_in multiple inside
worked_checked = refl

pub worked_found : find_of worked 7 ≡ record { refusal = none; table = table }
unfolding worked table find_of find_refusal kind_under table_at file_refusal part_refusal body_refusal body_table room_by rows_by row_of contents_refusal head_refusal entry_refusal left_over when unless first in_turn kind_of count_of form_of kind_at number_at start_at length_at sum_at body_at place_of seek_in at16 at32 sum_of sum_from least least_from check_of check_rows check_each check_frame row_refusal faulty frame_of over_at divisor divisor_in multiple inside
worked_found = refl
