-- Each line of the ladder has the numbers that the judge gives at its depth, and the lists end as the judge leaves them at depth 8.
use mathlib.Core.Path.{◌≡◌, sym, ap, ◌∙◌}
use mathlib.Core.Bool.{cond}
use mathlib.Core.List.{List}
use mathlib.Core.Logic.{⊎_elim}
use Prim.Native.Nat.{ℕ, suc, ◌-◌, ◌≤◌}
use native.Mathlib.Omega.{arith}
use lib.Dec.{eqb}
use lib.ListN.{length, get_or}
use Rattle.table.specs.declared.Table.{Table}
use Rattle.table.specs.Check.{Numbers as CheckNumbers, check_rows, check_of}
use Rattle.basics.proofs.Range.{inside_of}
use Rattle.table.specs.Rows.{beside, table_by}
use Rattle.table.specs.Meaning.{model_of}
use Rattle.judge_scan.specs.Lines.{no_line, line_at}
use Rattle.judge.specs.declared.Verdict.{Verdict}
use Rattle.judge_admit.specs.Admit.{long_enough, admit_of}
use Rattle.judge_admit.specs.Admit.{Admitted}
use Rattle.judge.specs.After.{map_after, pins_after}
use Rattle.judge.specs.Judge.{Numbers, given, numbers, judge_of, Judged}
use Rattle.judge_admit.proofs.Admitted.{admit_outcome}
use Rattle.std.specs.Prelude.{Result}
use Rattle.refusal.specs.declared.Refusal.{Refusal}
use Rattle.judge_ladder.specs.declared.Square.{Square}
use Rattle.judge_ladder.specs.Ladder.{Numbers as Squared, square, ladder_of, Laddered}
use Rattle.judge_climb.proofs.Squares.{lines_at}
use Rattle.table_row.specs.Limits.{most_depths}

-- the same table at depth y
abbrev pub at_depth : Table → ℕ → Table
at_depth t y = table_by (beside t.processors y) t.count t.rows

-- an accepted depth plays no part in the check
check_depth : (t : Table) (y : ℕ) → 1 ≤ t.depth → t.depth ≤ most_depths → 1 ≤ y → y ≤ most_depths → check_of (at_depth t y) ≡ check_of t
unfolding check_of check_rows
check_depth t y a b l g = rw (inside_of 1 t.depth most_depths a b, inside_of 1 y most_depths l g)

module _ (t : Table) (a b y : ℕ) (e : (admit_of t a b).refusal.no ≡ 0) (l : 1 ≤ y) (g : y ≤ most_depths) where
  fine : Admitted t a b (admit_of t a b).frame
  fine = ⊎_elim (λ f. f.0) (λ r. absurd (omega (arith, r.number))) (admit_outcome t a b)

  pub admit_depth : admit_of (at_depth t y) a b ≡ admit_of t a b
  unfolding admit_of
  admit_depth =
      ap (λ (c : CheckNumbers). cond (eqb c.refusal.no 0) (long_enough a b c) c)
      (check_depth t y fine.accepted.x_low fine.accepted.x_high l g)

  ladder_line : get_or (ladder_of t a b).lines (y - 1) no_line ≡ line_at (model_of t) y (admit_of t a b).frame
  unfolding ladder_of
  ladder_line =
      rw e
      (lines_at (model_of t) (admit_of t a b).frame (y - 1) (omega arith)
      ∙ ap (λ (x : ℕ). line_at (model_of t) x (admit_of t a b).frame) (let z : suc (y - 1) ≡ y = omega arith in z))

  -- the judge's definition at depth y gives the numbers of line y, on the same frame
  pub line_judged : judge_of (at_depth t y) a b ≡ given (get_or (ladder_of t a b).lines (y - 1) no_line) (admit_of t a b).frame
  unfolding judge_of
  line_judged = rw (admit_depth, e, ladder_line)

-- the same of whatever meets the two contracts, where the ladder is not refused
module _ (t : Table) (map pins map' pins' map'' pins'' : List ℕ) (r : Square) (v : Result Verdict Refusal) (L : Laddered t map pins map' pins' r) (e : (square r).refusal.no ≡ 0) where
  accepts : (admit_of t (length map) (length pins)).refusal.no ≡ 0
  unfolding ladder_of
  accepts = sym (ap (λ (s : Squared). s.refusal.no) L.answer) ∙ e

  -- line y has the numbers of the verdict at depth y
  pub line_of_verdict : (y : ℕ) → 1 ≤ y → y ≤ most_depths → Judged (at_depth t y) map pins map'' pins'' v
      → numbers v ≡ given (get_or (square r).lines (y - 1) no_line) (numbers v).frame
  line_of_verdict y l g J =
      let n = J.answer ∙ line_judged t (length map) (length pins) y accepts l g in
      n ∙ ap (λ (h : ℕ). given (get_or (ladder_of t (length map) (length pins)).lines (y - 1) no_line) h) (sym (ap (λ (k : Numbers). k.frame) n))
      ∙ ap (λ (s : Squared). given (get_or s.lines (y - 1) no_line) (numbers v).frame) (sym L.answer)

  -- "Both lists end as the judge leaves them at depth 8"
  pub lists_of_verdict : Judged (at_depth t most_depths) map pins map'' pins'' v → (map'' ≡ map') × (pins'' ≡ pins')
  unfolding map_after pins_after
  lists_of_verdict J =
      let same = admit_depth t (length map) (length pins) most_depths accepts (omega arith) (omega arith) in
      (rw (← same) J.map_is ∙ sym L.map_is, rw (← same) J.pins_is ∙ sym L.pins_is)
