-- The two outcomes of the judge's definition: a line on the frame, or a refusal with a number.
use mathlib.Core.Path.{◌≡◌, refl, ap}
use mathlib.Core.Logic.{◌⊎◌, inl, inr, ⊎_elim}
use Prim.Native.Nat.{ℕ, ◌<◌}
use native.Mathlib.Omega.{arith}
use borrow.Author.Tests.{ne_eqb}
use Rattle.model.specs.Depths.{available}
use Rattle.table.specs.declared.Table.{Table}
use Rattle.refusal.specs.Refusal.{Numbered, none}
use Rattle.table.specs.Meaning.{model_of}
use Rattle.table.proofs.Accepted.{Rejected}
use Rattle.judge_scan.specs.Lines.{line_of}
use Rattle.judge_admit.specs.Admit.{admit_of}
use Rattle.judge_admit.specs.Admit.{Admitted}
use Rattle.judge.specs.Judge.{Numbers, given, withheld, judge_of}
use Rattle.judge_admit.proofs.Admitted.{admit_outcome}

module _ (t : Table) (a b : ℕ) where
  -- a verdict, on the frame h
  pub record Given (h : ℕ) : Type 0 where
    pub admitted : Admitted t a b h
    pub accepts : (admit_of t a b).refusal ≡ none
    pub frame : (admit_of t a b).frame ≡ h
    pub answer : judge_of t a b ≡ given (line_of (model_of t) (available (model_of t) t.depth) h) h

  pub record Withheld (r : Numbered) : Type 0 where
    pub number : 0 < r.no
    pub refuses : (admit_of t a b).refusal ≡ r
    pub answer : judge_of t a b ≡ withheld r

  pub judge_outcome : ((h : ℕ) × Given h) ⊎ ((r : Numbered) × Withheld r)
  unfolding judge_of
  judge_outcome = ⊎_elim (λ f. inl (_, fine f)) (λ r. inr (_, bad r)) (admit_outcome t a b)
    where
      fine : Admitted t a b (admit_of t a b).frame × ((admit_of t a b).refusal ≡ none) → Given (admit_of t a b).frame
      fine f = record { admitted = f.0; accepts = f.1; frame = refl; answer = rw (ap (λ (r : Numbered). r.no) f.1) }

      bad : Rejected (admit_of t a b) → Withheld (admit_of t a b).refusal
      bad r = record {
        number = r.number;
        refuses = refl;
        answer = rw (ne_eqb (admit_of t a b).refusal.no 0 (λ (z : (admit_of t a b).refusal.no ≡ 0). omega (arith, r.number)));
      }

  -- an answer that is no refusal has a frame
  pub judge_frame : (judge_of t a b).refusal.no ≡ 0 → 0 < (judge_of t a b).frame
  judge_frame e =
      ⊎_elim
      (λ g. rw g.1.answer g.1.admitted.accepted.frame_low)
      (λ w. absurd (omega (arith, w.1.number, ap (λ (n : Numbers). n.refusal.no) w.1.answer)))
      judge_outcome
