-- What stays as it was: "Every refusal leaves all lent memory untouched", and "Words from H on are unchanged".
use mathlib.Core.Path.{◌≡◌, refl, ap, ◌∙◌}
use mathlib.Core.Bool.{false, true≢false}
use mathlib.Core.List.{List}
use mathlib.Core.Logic.{⊎_elim}
use Prim.Native.Nat.{ℕ, ◌≤◌, ◌<◌}
use native.Mathlib.Omega.{arith}
use lib.ListN.{length, get_or}
use borrow.Author.Tests.{eq-eqb, ne_eqb}
use Rattle.basics.proofs.Tabled.{filled_past}
use Rattle.refusal.specs.Refusal.{Numbered}
use Rattle.table.specs.declared.Table.{Table}
use Rattle.table.specs.Check.{Numbers as CheckNumbers}
use Rattle.table.specs.Meaning.{Accepted}
use Rattle.judge_scan.specs.Lines.{no_line}
use Rattle.refusal.specs.declared.Refusal.{Refusal}
use Rattle.std.specs.Prelude.{Result, Ok, Err}
use Rattle.judge.specs.declared.Verdict.{Verdict}
use Rattle.judge.specs.declared.Verdict.TheVariants.{Infeasible, Undecided}
use Rattle.judge_admit.specs.Admit.{admit_of}
use Rattle.judge.specs.After.{unless_refused, map_after, pins_after}
use Rattle.judge.specs.Judge.{Numbers, given, numbers, infeasible, Judged}
use Rattle.judge.proofs.Outcomes.{judge_outcome}
use Rattle.judge.proofs.Meaning.{verdict_given}

module _ (c : CheckNumbers) (f : ℕ → ℕ) (l : List ℕ) where
  kept : (c.refusal.no ≡ 0 → ⊥) → unless_refused c f l ≡ l
  kept n = rw (ne_eqb _ _ n)

  past : c.refusal.no ≡ 0 → (s : ℕ) → c.frame ≤ s → get_or (unless_refused c f l) s 0 ≡ get_or l s 0
  past e s g = rw (eq-eqb _ _ e) (filled_past f c.frame l s g)

-- both lists after a refusal, at any depth
module _ (t : Table) (x : ℕ) (map pins : List ℕ) where
  pub after_refused : ((admit_of t (length map) (length pins)).refusal.no ≡ 0 → ⊥) → (map_after t x map pins ≡ map) × (pins_after t x map pins ≡ pins)
  unfolding map_after pins_after
  after_refused n = let c = admit_of t (length map) (length pins) in (kept c _ map n, kept c _ pins n)

  pub after_past : (h : ℕ) → (admit_of t (length map) (length pins)).refusal.no ≡ 0 → (admit_of t (length map) (length pins)).frame ≡ h → (s : ℕ) → h ≤ s
      → (get_or (map_after t x map pins) s 0 ≡ get_or map s 0) × (get_or (pins_after t x map pins) s 0 ≡ get_or pins s 0)
  unfolding map_after pins_after
  after_past h e q s g =
      let c = admit_of t (length map) (length pins) in
      (past c _ map e s (omega arith), past c _ pins e s (omega arith))

module _ (t : Table) (map pins map' pins' : List ℕ) (r : Result Verdict Refusal) (j : Judged t map pins map' pins' r) where
  -- an answer with a refusal
  refuses : 0 < (numbers r).refusal.no → (admit_of t (length map) (length pins)).refusal.no ≡ 0 → ⊥
  refuses h z =
      ⊎_elim
      (λ g. omega (arith, ap (λ (n : Numbers). n.refusal.no) (j.answer ∙ g.1.answer)))
      (λ w. omega (arith, w.1.number, ap (λ (q : Numbered). q.no) w.1.refuses))
      (judge_outcome t (length map) (length pins))

  -- "Every refusal leaves all lent memory untouched"
  pub judge_refused_unchanged : 0 < (numbers r).refusal.no → (map' ≡ map) × (pins' ≡ pins)
  judge_refused_unchanged h =
      let k = after_refused t t.depth map pins (refuses h) in
      (j.map_is ∙ k.0, j.pins_is ∙ k.1)

  -- "Words from H on are unchanged"
  pub judge_past_frame : (numbers r).refusal.no ≡ 0 → (s : ℕ) → (numbers r).frame ≤ s → (get_or map' s 0 ≡ get_or map s 0) × (get_or pins' s 0 ≡ get_or pins s 0)
  judge_past_frame e s g =
      let v = verdict_given t map pins map' pins' r j e in
      let k = after_past t t.depth map pins (numbers r).frame (ap (λ (q : Numbered). q.no) v.accepts) v.frame s g in
      (ap (λ (l : List ℕ). get_or l s 0) j.map_is ∙ k.0, ap (λ (l : List ℕ). get_or l s 0) j.pins_is ∙ k.1)

  -- "Otherwise undecided, with H and zeros"
  pub judge_undecided : (numbers r).refusal.no ≡ 0 → infeasible r ≡ false → (numbers r ≡ given no_line (numbers r).frame) × Accepted t (numbers r).frame
  judge_undecided e i =
      let a = (verdict_given t map pins map' pins' r j e).admitted.accepted in
      (zeros r i a.frame_low, a)
    where
      zeros : (v : Result Verdict Refusal) → infeasible v ≡ false → 1 ≤ (numbers v).frame → numbers v ≡ given no_line (numbers v).frame
      zeros (Ok (Infeasible s work supply h)) i l = absurd (true≢false i)
      zeros (Ok (Undecided h)) i l = refl
      zeros (Err q) i l = absurd (omega arith)
