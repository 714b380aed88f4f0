-- What a verdict means: infeasible exactly when some length fails, no valid schedule then, and else schedules inside the map that is left.
use mathlib.Core.Path.{◌≡◌, sym, ap, ◌∙◌}
use mathlib.Core.Bool.{true, not}
use mathlib.Core.List.{List}
use mathlib.Core.Logic.{⊎_elim, ◌↔◌}
use Prim.Native.Nat.{ℕ, ◌-◌, ◌<◌}
use native.Mathlib.Nat.{pos_of_ne-zero}
use native.Mathlib.Omega.{arith}
use lib.ListN.{length, get_or}
use borrow.Author.Tests.{eqb-false, not-true, ne_eqb}
use Rattle.model.specs.Model.{Model, Map}
use Rattle.model.specs.Depths.{pinned_at}
use Rattle.model.specs.Supply.{supply}
use Rattle.model.specs.Work.{work_due}
use Rattle.model.specs.Failing.{least_failing}
use Rattle.model.specs.Schedule.{Valid, Within}
use Rattle.model.proofs.Better.{demand3}
use Rattle.model.proofs.Soundness.{infeasible as model-infeasible}
use Rattle.model.proofs.Least.{least_positive, least_exists}
use Rattle.sets.specs.Word.{words}
use Rattle.sets.proofs.Words.{member_word, word_none}
use Rattle.basics.proofs.Tabled.{filled_at}
use Rattle.table.specs.declared.Table.{Table}
use Rattle.refusal.specs.Refusal.{Numbered}
use Rattle.table.specs.Meaning.{model_of}
use Rattle.table.proofs.Accepted.{sound_model}
use Rattle.judge_scan.specs.Lines.{line_of}
use Rattle.refusal.specs.declared.Refusal.{Refusal}
use Rattle.std.specs.Prelude.{Result}
use Rattle.judge.specs.declared.Verdict.{Verdict}
use Rattle.judge.specs.After.{map_after, pins_after}
use Rattle.judge.specs.Judge.{Numbers, line_in, given, numbers, infeasible, Judged}
use Rattle.judge.specs.Meaning.{map_at, Fails, Shown, InWords}
use Rattle.judge.proofs.Lines.{line_t, line_some}
use Rattle.judge.proofs.Outcomes.{Given, Withheld, judge_outcome}

module _ (t : Table) (map pins map' pins' : List ℕ) (r : Result Verdict Refusal) (j : Judged t map pins map' pins' r) where
  abbrev M : Model
  M = model_of t

  abbrev H : ℕ
  H = (numbers r).frame

  abbrev A : Map
  A = map_at t t.depth

  abbrev On : ℕ → Type 0
  On h = Given t (length map) (length pins) h

  -- what is no refusal is a verdict on the frame
  on_frame : ((q : Numbered) → Withheld t (length map) (length pins) q → ⊥) → On H
  on_frame f =
      ⊎_elim
      (λ g. rw (ap (λ (n : Numbers). n.frame) (j.answer ∙ g.1.answer)) g.1)
      (λ w. absurd (f w.0 w.1))
      (judge_outcome t (length map) (length pins))

  pub verdict_given : (numbers r).refusal.no ≡ 0 → Given t (length map) (length pins) (numbers r).frame
  verdict_given e = on_frame (λ q w. omega (arith, w.number, ap (λ (n : Numbers). n.refusal.no) (j.answer ∙ w.answer)))

  long : infeasible r ≡ true → 0 < (numbers r).t
  long e = pos_of_ne-zero (eqb-false _ _ (not-true _ (sym j.case ∙ e)))

  infeasible_given : infeasible r ≡ true → On H
  infeasible_given e = on_frame (λ q w. omega (arith, long e, ap (λ (n : Numbers). n.t) (j.answer ∙ w.answer)))

  least_t : On H → (numbers r).t ≡ least_failing M A H
  least_t g = ap (λ (n : Numbers). n.t) (j.answer ∙ g.answer) ∙ line_t _ _ _

  -- "It gives the least such t, that work, that supply, and H"
  pub infeasible_shown : infeasible r ≡ true → Shown t t.depth (numbers r).frame (line_in (numbers r))
  infeasible_shown e =
      let g = infeasible_given e in
      let n : numbers r ≡ given (line_of M A H) H = j.answer ∙ g.answer in
      let et : (numbers r).t ≡ least_failing M A H = least_t g in
      let some = line_some M A H (rw (ap (λ (k : Numbers). k.t) n) at (long e)) in
      record {
        least = rw et (least_positive M A H (rw et at (long e)));
        work = ap (λ (k : Numbers). k.work) n ∙ some.0 ∙ ap (work_due M) (sym et);
        supply = ap (λ (k : Numbers). k.supply) n ∙ some.1 ∙ ap (supply M A) (sym et);
      }

  -- "Infeasible when for some t in 1 to H the work due is greater than the usable supply of slots 0 to t - 1"
  pub infeasible_exactly : (numbers r).refusal.no ≡ 0 → (infeasible r ≡ true) ↔ Fails t t.depth (numbers r).frame
  infeasible_exactly e = (there, back)
    where
      there : infeasible r ≡ true → Fails t t.depth (numbers r).frame
      there i = let l = (infeasible_shown i).least in ((numbers r).t, l.from, l.to, l.here)

      back : Fails t t.depth (numbers r).frame → infeasible r ≡ true
      back f =
          let l = least_exists M A H f.0 f.1 f.2 f.3 in
          let some : 0 < (numbers r).t = rw (least_t (verdict_given e)) l.from in
          j.case ∙ ap not (ne_eqb (numbers r).t 0 (λ (z : (numbers r).t ≡ 0). omega arith))

  -- where the judge says infeasible there is no valid schedule of one frame
  pub infeasible_means_none : infeasible r ≡ true → (S : Map) → Valid (model_of t) (numbers r).frame S → ⊥
  infeasible_means_none e S ok =
      let g = infeasible_given e in
      let l = (infeasible_shown e).least in
      model-infeasible (model_of t) (sound_model t _ g.admitted.accepted) (numbers r).frame t.depth (numbers r).t l.to l.here S ok

  -- the words that the judge leaves
  pub map_left : (numbers r).refusal.no ≡ 0 → (s : ℕ) → s < (numbers r).frame → get_or map' s 0 ≡ words (model_of t) A s
  unfolding map_after
  map_left e s l =
      let g = verdict_given e in
      rw (j.map_is, ap (λ (q : Numbered). q.no) g.accepts, g.frame) (filled_at _ (numbers r).frame map s l)

  pub pins_left : (numbers r).refusal.no ≡ 0 → (s : ℕ) → s < (numbers r).frame → get_or pins' s 0 ≡ words (model_of t) (pinned_at (model_of t) (t.depth - 1)) s
  unfolding pins_after
  pins_left e s l =
      let g = verdict_given e in
      rw (j.pins_is, ap (λ (q : Numbered). q.no) g.accepts, g.frame) (filled_at _ (numbers r).frame pins s l)

  -- "or zeros when x is 1"
  pub pins_zero : (numbers r).refusal.no ≡ 0 → t.depth ≡ 1 → (s : ℕ) → s < (numbers r).frame → get_or pins' s 0 ≡ 0
  unfolding pinned_at
  pins_zero e x s l = pins_left e s l ∙ ap (λ (d : ℕ). words (model_of t) (pinned_at (model_of t) (d - 1)) s) x ∙ word_none t.count

  -- where there is a valid schedule, there is one that in every slot runs only rows whose bit is set in the map that the judge leaves
  pub schedule_inside_map : (numbers r).refusal.no ≡ 0 → (S : Map) → Valid (model_of t) (numbers r).frame S
      → (S' : Map) × Valid (model_of t) (numbers r).frame S'
      × InWords t (numbers r).frame S' map'
  unfolding Within
  schedule_inside_map e S ok =
      let g = verdict_given e in
      let p = demand3 (model_of t) (sound_model t _ g.admitted.accepted) (numbers r).frame S ok t.depth in
      (p.0, p.1, λ s i l k q. rw (map_left e s l, member_word t.count i (A s) k) (p.2 s i l k q))
