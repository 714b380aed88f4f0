-- Each table of an accepted file has a verdict, and no refusal: it is accepted by itself, and its frame has room in the lists.
use mathlib.Core.Path.{◌≡◌}
use mathlib.Core.Bool.{true}
use mathlib.Core.List.{List}
use Prim.Native.Nat.{ℕ, ◌<◌}
use borrow.Author.Tests.{eq-eqb, le-ltb}
use Rattle.table.specs.declared.Table.{Table}
use Rattle.table_row.specs.Limits.{most_slots}
use Rattle.table.specs.Check.{check_of}
use Rattle.table.specs.Meaning.{model_of}
use Rattle.table.proofs.Accepted.{accepted}
use Rattle.file_kinds.specs.Kinds.{kind_of, is_table}
use Rattle.file_entries.specs.Entries.{count_of, kind_at}
use Rattle.file_bodies.specs.Body.{table_at}
use Rattle.file_check.specs.Check.{file_refusal}
use Rattle.file_check.proofs.Fine.{file_is_fine}
use Rattle.judge_scan.specs.Lines.{line_at}
use Rattle.judge_admit.specs.Admit.{admit_of}
use Rattle.judge.specs.Judge.{given, judge_of}
use Rattle.text_shift.specs.Text.{verdict_at}

module _ (t : Table) (e : (check_of t).refusal.no ≡ 0) where
  has_room : admit_of t most_slots most_slots ≡ check_of t
  unfolding admit_of
  has_room = rw (eq-eqb _ _ e, le-ltb most_slots _ (accepted t e).frame_high)

  judged : judge_of t most_slots most_slots ≡ given (line_at (model_of t) t.depth (check_of t).frame) (check_of t).frame
  unfolding judge_of
  judged = rw (has_room, eq-eqb _ _ e)

-- the numbers of a line are those of the table's own model at its depth, on its frame
pub verdict_of_table : (s : List ℕ) (i : ℕ) → (file_refusal s).no ≡ 0 → i < count_of s → is_table (kind_of (kind_at s i)) ≡ true
    → let t = table_at s i in verdict_at s i ≡ given (line_at (model_of t) t.depth (check_of t).frame) (check_of t).frame
unfolding verdict_at table_at
verdict_of_table s i f l k = judged (table_at s i) (((file_is_fine s f).part i l).table k).table
