-- What computes: the rules give the answer of every entry, and the rows of the seventh have a valid schedule.
use mathlib.Core.Path.{◌≡◌, refl, sym, subst}
use mathlib.Core.Bool.{true, false}
use mathlib.Core.List.{List}
use lib.ListN.{get_or}
use Rattle.basics.specs.Range.{inside}
use Rattle.basics.specs.Sum.{sum, all}
use Rattle.basics.specs.Least.{least_from, least}
use Rattle.model.specs.Windows.{window}
use Rattle.model.specs.Pins.{size, pin, pins, pinned}
use Rattle.model.specs.Depths.{full, next, available, pinned_at}
use Rattle.model.specs.Supply.{usable, supply}
use Rattle.model.specs.Work.{jobs_due, work_due}
use Rattle.model.specs.Failing.{fails, least_failing}
use Rattle.model.specs.Schedule.{Valid}
use Rattle.model.specs.Tests.{sound, valid}
use Rattle.model.proofs.Tests.{sound_ok, valid_ok}
use Rattle.model.proofs.Examples.{turns}
use Rattle.sets.specs.Word.{word}
use Rattle.table_row.specs.Divisor.{divisor_in, divisor, multiple}
use Rattle.table.specs.Frame.{frame_of, over_at}
use Rattle.table_row.specs.Row.{row_refusal, faulty}
use Rattle.table.specs.Check.{check_frame, check_each, check_rows, check_of}
use Rattle.judge_scan.specs.Lines.{line_of}
use Rattle.try_marked.specs.declared.Case.{Case}
use Rattle.try_marked.specs.Case.{no_case, model_in, checks, answers, mapped, pinned_in, right}
use Rattle.try_marked.specs.Paper.{paper, Kept}

pub rules : all 10 (λ i. right (get_or paper i no_case)) ≡ true
unfolding sum all window size pin pins pinned full next available pinned_at usable supply jobs_due work_due fails least_failing word divisor_in divisor multiple least_from least frame_of over_at row_refusal faulty check_frame check_each check_rows check_of line_of checks answers mapped pinned_in right paper inside
rules = refl

-- case 7 is undecided, and it can be met: in each slot all rows run but one
pub case_7_schedule : (cases : List Case) → Kept cases → Valid (model_in (get_or cases 6 no_case)) 3 turns
unfolding all sound valid sum window size paper
case_7_schedule cases k =
    let M = model_in (get_or paper 6 no_case) in
    subst (λ (l : List Case). Valid (model_in (get_or l 6 no_case)) 3 turns) (sym k.entries) (valid_ok M (sound_ok M refl) 3 turns refl)

-- and in that schedule the first row's job is interrupted in slot 1
pub case_7_interrupted : (turns 0 0 ≡ true) × (turns 1 0 ≡ false) × (turns 2 0 ≡ true)
case_7_interrupted = (refl, refl, refl)
