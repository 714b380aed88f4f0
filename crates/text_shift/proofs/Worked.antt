-- The worked file of 38 bytes, by computing: "Whole output: `TABLE 7 INFEASIBLE 8 14 13`."
use mathlib.Core.Path.{◌≡◌, refl}
use mathlib.Core.List.{[], ◌∷◌}
use Rattle.basics.specs.Range.{inside}
use Rattle.basics.specs.Sum.{sum}
use Rattle.model.specs.Windows.{window}
use Rattle.model.specs.Depths.{available}
use Rattle.model.specs.Pins.{size}
use Rattle.model.specs.Supply.{usable, supply}
use Rattle.model.specs.Work.{jobs_due, work_due}
use Rattle.model.specs.Failing.{fails, least_failing}
use Rattle.table_row.specs.Row.{row_refusal, faulty}
use Rattle.table.specs.Check.{check_of, check_rows, check_each, check_frame}
use Rattle.table.specs.Frame.{frame_of, over_at}
use Rattle.basics.specs.Least.{least, least_from}
use Rattle.table_row.specs.Divisor.{divisor, divisor_in, multiple}
use Rattle.file_bytes.specs.Number.{at16, at32}
use Rattle.file_bytes.specs.Sum.{sum_of, sum_from}
use Rattle.basics.specs.When.{when, unless}
use Rattle.refusal.specs.Order.{first, in_turn}
use Rattle.file_kinds.specs.Kinds.{kind_of}
use Rattle.file_entries.specs.Entries.{count_of, form_of, kind_at, number_at, start_at, length_at, sum_at, body_at, place_of, seek_in}
use Rattle.file_contents.specs.Contents.{head_refusal, entry_refusal, left_over, contents_refusal}
use Rattle.table.specs.Rows.{rows_by, room_by}
use Rattle.file_bodies.specs.Body.{row_of, body_table, table_at}
use Rattle.file_bodies.specs.Refusal.{body_refusal}
use Rattle.file_check.specs.Check.{part_refusal, file_refusal}
use Rattle.file_check.proofs.Worked.{worked}
use Rattle.judge_scan.specs.Lines.{line_of}
use Rattle.judge_admit.specs.Admit.{admit_of}
use Rattle.judge.specs.Judge.{judge_of}
use Rattle.text_decimal.specs.Decimal.{decimal, decimal_in}
use Rattle.text_lines.specs.Line.{infeasible_line, undecided_line, refused_line, table_line}
use Rattle.text_shift.specs.Text.{verdict_at, entry_line, lines_to, text_of}

pub worked_text : text_of worked ≡ 84 ∷ 65 ∷ 66 ∷ 76 ∷ 69 ∷ 32 ∷ 55 ∷ 32 ∷ 73 ∷ 78 ∷ 70 ∷ 69 ∷ 65 ∷ 83 ∷ 73 ∷ 66 ∷ 76 ∷ 69 ∷ 32 ∷ 56 ∷ 32 ∷ 49 ∷ 52 ∷ 32 ∷ 49 ∷ 51 ∷ 10 ∷ []
unfolding worked text_of lines_to entry_line verdict_at table_line infeasible_line undecided_line refused_line decimal decimal_in judge_of admit_of line_of least_failing fails work_due jobs_due supply usable size sum available window file_refusal part_refusal body_refusal body_table table_at room_by rows_by row_of contents_refusal head_refusal entry_refusal left_over when unless first in_turn kind_of count_of form_of kind_at number_at start_at length_at sum_at body_at place_of seek_in at16 at32 sum_of sum_from least least_from check_of check_rows check_each check_frame row_refusal faulty frame_of over_at divisor divisor_in multiple inside
worked_text = refl
