-- What the ladder's square and lists mean: demands 2 and 3 at each depth, what stays as it was, and that rows past the count never matter.
use mathlib.Core.Path.{◌≡◌, sym, ap, ◌∙◌}
use mathlib.Core.Bool.{cond}
use mathlib.Core.List.{List}
use mathlib.Core.Logic.{◌↔◌, ⊎_elim}
use Prim.Native.Nat.{ℕ, suc, ◌≤◌, ◌<◌}
use native.Mathlib.Omega.{arith}
use lib.Dec.{eqb}
use lib.ListN.{length, get_or}
use borrow.Author.Tests.{ne_eqb}
use Rattle.basics.proofs.Tabled.{filled_at}
use Rattle.refusal.specs.Refusal.{Numbered}
use Rattle.model.specs.Model.{Map}
use Rattle.model.specs.Supply.{supply}
use Rattle.model.specs.Work.{work_due}
use Rattle.model.specs.Failing.{least_failing}
use Rattle.model.specs.Schedule.{Valid, Within}
use Rattle.model.proofs.Better.{demand3}
use Rattle.model.proofs.Soundness.{infeasible}
use Rattle.model.proofs.Least.{least_positive, least_exists}
use Rattle.sets.specs.Word.{words}
use Rattle.sets.proofs.Words.{member_word}
use Rattle.table.specs.declared.Table.{Table}
use Rattle.table_row.specs.Limits.{most_depths}
use Rattle.table.specs.Rows.{Alike}
use Rattle.table.specs.Check.{Numbers as CheckNumbers}
use Rattle.table.specs.Meaning.{model_of, Accepted}
use Rattle.table.proofs.Accepted.{sound_model}
use Rattle.judge_scan.specs.declared.Line.{Line}
use Rattle.judge_scan.specs.Lines.{no_line, line_at}
use Rattle.judge_admit.specs.Admit.{admit_of}
use Rattle.judge.specs.After.{map_after, pins_after}
use Rattle.judge.specs.Meaning.{map_at, Fails, Shown, InWords}
use Rattle.judge_admit.proofs.Admitted.{admit_outcome}
use Rattle.judge.proofs.Lines.{line_t, line_some}
use Rattle.judge.proofs.Kept.{after_refused, after_past}
use Rattle.judge.proofs.Past.{line_alike, admit_alike, map_alike, pins_alike}
use Rattle.judge_climb.specs.Lines.{lines_of}
use Rattle.judge_ladder.specs.declared.Square.{Square}
use Rattle.judge_ladder.specs.Ladder.{Numbers, square, no_lines, ladder_of, Laddered}
use Rattle.judge_climb.proofs.Squares.{lines_at, lines_ext}

-- where the ladder is refused
module _ (t : Table) (map pins map' pins' : List ℕ) (r : Square) (L : Laddered t map pins map' pins' r) where
  abbrev c : CheckNumbers
  c = admit_of t (length map) (length pins)

  refusal_is : (square r).refusal ≡ c.refusal
  unfolding ladder_of
  refusal_is = ap (λ (s : Numbers). s.refusal) L.answer

  -- "Every refusal leaves all lent memory untouched", and the square is zeros
  pub ladder_refused_unchanged : 0 < (square r).refusal.no → (map' ≡ map) × (pins' ≡ pins) × ((square r).lines ≡ no_lines)
  unfolding ladder_of
  ladder_refused_unchanged h =
      let n : c.refusal.no ≡ 0 → ⊥ = λ z. omega (arith, ap (λ (q : Numbered). q.no) refusal_is) in
      let k = after_refused t most_depths map pins n in
      (L.map_is ∙ k.0, L.pins_is ∙ k.1, ap (λ (s : Numbers). s.lines) L.answer ∙ rw (ne_eqb c.refusal.no 0 n))

-- where it is not, on the frame h of the table
module _ (t : Table) (map pins map' pins' : List ℕ) (r : Square) (L : Laddered t map pins map' pins' r) (e : (square r).refusal.no ≡ 0) (h : ℕ) (a : Accepted t h) where
  fine : (admit_of t (length map) (length pins)).refusal.no ≡ 0
  fine = sym (ap (λ (q : Numbered). q.no) (refusal_is t map pins map' pins' r L)) ∙ e

  frame_is : (admit_of t (length map) (length pins)).frame ≡ h
  frame_is =
      ⊎_elim (λ f. f.0.accepted.frame ∙ sym a.frame) (λ q. absurd (omega (arith, q.number, fine)))
      (admit_outcome t (length map) (length pins))

  -- "Words from H on are unchanged"
  pub ladder_past_frame : (s : ℕ) → h ≤ s → (get_or map' s 0 ≡ get_or map s 0) × (get_or pins' s 0 ≡ get_or pins s 0)
  ladder_past_frame s g =
      let k = after_past t most_depths map pins h fine frame_is s g in
      (ap (λ (l : List ℕ). get_or l s 0) L.map_is ∙ k.0, ap (λ (l : List ℕ). get_or l s 0) L.pins_is ∙ k.1)

  -- the map that it leaves is that of the last depth
  pub ladder_map_left : (s : ℕ) → s < h → get_or map' s 0 ≡ words (model_of t) (map_at t most_depths) s
  unfolding map_after
  ladder_map_left s l = rw (L.map_is, fine, frame_is) (filled_at _ h map s l)

  module _ (y : ℕ) (k : y < most_depths) where
    abbrev line : Line
    line = get_or (square r).lines y no_line

    line_is : line ≡ line_at (model_of t) (suc y) h
    unfolding ladder_of
    line_is =
        ap (λ (s : Numbers). get_or s.lines y no_line) L.answer
        ∙ rw (fine, frame_is) (lines_at (model_of t) h y k)

    length_is : line.t ≡ least_failing (model_of t) (map_at t (suc y)) h
    length_is = ap (λ (l : Line). l.t) line_is ∙ line_t _ _ h

    -- a line with a length has the least that fails at its depth, with its work and its supply
    pub line_shown : 0 < line.t → Shown t (suc y) h line
    line_shown l =
        let some = line_some (model_of t) (map_at t (suc y)) h (rw line_is at l) in
        record {
          least = rw length_is (least_positive (model_of t) (map_at t (suc y)) h (rw length_is at l));
          work = ap (λ (x : Line). x.work) line_is ∙ some.0 ∙ ap (work_due (model_of t)) (sym length_is);
          supply = ap (λ (x : Line). x.supply) line_is ∙ some.1 ∙ ap (supply (model_of t) (map_at t (suc y))) (sym length_is);
        }

    -- and it has one exactly when some length of the frame fails there
    pub line_exactly : (0 < line.t) ↔ Fails t (suc y) h
    line_exactly = (
      λ l. let q = (line_shown l).least in (line.t, q.from, q.to, q.here),
      λ f. rw length_is (least_exists (model_of t) (map_at t (suc y)) h f.0 f.1 f.2 f.3).from,
    )

    -- then no valid schedule of one frame exists
    pub line_means_none : 0 < line.t → (S : Map) → Valid (model_of t) h S → ⊥
    line_means_none l S ok =
        let q = (line_shown l).least in
        infeasible (model_of t) (sound_model t h a) h (suc y) line.t q.to q.here S ok

  -- where there is a valid schedule, there is one that in every slot runs only rows in the map that the ladder leaves
  pub ladder_schedule_inside : (S : Map) → Valid (model_of t) h S → (S' : Map) × Valid (model_of t) h S' × InWords t h S' map'
  unfolding Within
  ladder_schedule_inside S ok =
      let p = demand3 (model_of t) (sound_model t h a) h S ok most_depths in
      (p.0, p.1, λ s i l k q. rw (ladder_map_left s l, member_word t.count i (map_at t most_depths s) k) (p.2 s i l k q))

-- "Rows past the count never matter"
module _ (t u : Table) (a : Alike t u) where
  pub ladder_alike : (m n : ℕ) → ladder_of t m n ≡ ladder_of u m n
  unfolding ladder_of
  ladder_alike m n =
      ap (λ (c : CheckNumbers). record { refusal = c.refusal; lines = cond (eqb c.refusal.no 0) (lines_of (model_of t) c.frame) no_lines })
      (admit_alike t u a m n)
      ∙ ap (λ (l : List Line). record { refusal = (admit_of u m n).refusal; lines = cond (eqb (admit_of u m n).refusal.no 0) l no_lines })
      (lines_ext (model_of t) (model_of u) (admit_of u m n).frame (λ y. line_alike t u a y (admit_of u m n).frame))

  pub ladder_lists_alike : (map pins : List ℕ)
      → (map_after t most_depths map pins ≡ map_after u most_depths map pins) × (pins_after t most_depths map pins ≡ pins_after u most_depths map pins)
  ladder_lists_alike map pins = (map_alike t u a most_depths map pins, pins_alike t u a most_depths map pins)
