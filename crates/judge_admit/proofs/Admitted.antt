-- How the code comes to the frame or a refusal, and what each of them tells.
use mathlib.Core.Path.{◌≡◌, refl, sym, ap, ◌∙◌}
use mathlib.Core.Bool.{Bool, true, false, cond, ◌||◌}
use mathlib.Core.Logic.{◌⊎◌, inl, inr, ⊎_elim}
use Prim.Native.Nat.{ℕ, ◌<◌}
use native.Mathlib.Omega.{arith}
use lib.Dec.{ltb}
use borrow.Author.Tests.{ltb-false, ne_eqb}
use Rattle.table.specs.declared.Table.{Table}
use Rattle.refusal.specs.Refusal.{Numbered, none}
use Rattle.std.specs.Prelude.{Result, Ok, Err, IfOk}
use Rattle.refusal.specs.declared.Refusal.{Refusal}
use Rattle.table.specs.declared.framed.Framed.{Framed}
use Rattle.table.specs.Check.{Numbers, framed, refused_by, refused, check_of}
use Rattle.table.specs.Meaning.{Accepted}
use Rattle.table.proofs.Accepted.{Rejected, outcome}
use Rattle.table.proofs.Determined.{apart, framed_once}
use Rattle.refusal.proofs.Told.{told_once}
use Rattle.judge_admit.specs.Admit.{long_enough, admission, admit_of}
use Rattle.judge_admit.specs.Admit.{Admitted}

module _ (t : Table) (a b : ℕ) where
  accepts : (check_of t).refusal ≡ none → admit_of t a b ≡ long_enough a b (check_of t)
  unfolding admit_of
  accepts e = rw (ap (λ (r : Numbered). r.no) e)

  pub admit_frame : (h : ℕ) → framed h ≡ check_of t → long_enough a b (framed h) ≡ admit_of t a b
  admit_frame h e = sym (accepts (sym (ap (λ (c : Numbers). c.refusal) e)) ∙ ap (long_enough a b) (sym e))

  rejects : Rejected (check_of t) → admit_of t a b ≡ check_of t
  unfolding admit_of
  rejects r = rw (ne_eqb (check_of t).refusal.no 0 (λ (z : (check_of t).refusal.no ≡ 0). omega (arith, r.number)))

  pub admit_refused : (r : Numbered) → refused_by r ≡ check_of t → refused_by r ≡ admit_of t a b
  admit_refused r e =
      let rejected : Rejected (check_of t) =
      ⊎_elim (λ f. absurd (omega (arith, f.0.frame_low, ap (λ (c : Numbers). c.frame) e))) (λ q. q) (outcome t) in
      e ∙ sym (rejects rejected)

  -- every table with two lists is admitted, or refused
  pub admit_outcome : (Admitted t a b (admit_of t a b).frame × ((admit_of t a b).refusal ≡ none)) ⊎ Rejected (admit_of t a b)
  admit_outcome = ⊎_elim (λ f. fine f.0 f.1) (λ r. inr (rw (rejects r) r)) (outcome t)
    where
      h : ℕ
      h = (check_of t).frame

      fine : Accepted t h → (check_of t).refusal ≡ none → (Admitted t a b (admit_of t a b).frame × ((admit_of t a b).refusal ≡ none)) ⊎ Rejected (admit_of t a b)
      fine f e = rw (accepts e) (go (ltb a h) (ltb b h) refl refl)
        where
          go : (p q : Bool) → ltb a h ≡ p → ltb b h ≡ q
              → let c = cond (p || q) (refused 8 0) (check_of t) in (Admitted t a b c.frame × (c.refusal ≡ none)) ⊎ Rejected c
          go true q ep eq = inr (record { number = omega arith; entry = refl; frame = refl })
          go false true ep eq = inr (record { number = omega arith; entry = refl; frame = refl })
          go false false ep eq = inl (record { accepted = f; map_room = ltb-false _ _ ep; pins_room = ltb-false _ _ eq }, e)

  pub admitted : (h : ℕ) → framed h ≡ admit_of t a b → Admitted t a b h
  admitted h e =
      ⊎_elim
      (λ f. rw (ap (λ (c : Numbers). c.frame) e) f.0)
      (λ r. absurd (omega (arith, r.number, ap (λ (c : Numbers). c.refusal.no) e)))
      admit_outcome

  pub admit_rejected : (r : Numbered) → refused_by r ≡ admit_of t a b → 0 < r.no
  admit_rejected r e =
      ⊎_elim
      (λ f. absurd (omega (arith, f.0.accepted.frame_low, ap (λ (c : Numbers). c.frame) e)))
      (λ q. rw (ap (λ (c : Numbers). c.refusal.no) e) q.number)
      admit_outcome

  -- two answers that meet admit's contract are equal
  pub admit_determined : (r s : Result Framed Refusal) → admission r ≡ admit_of t a b → IfOk r (λ x. x.table ≡ t) → admission s ≡ admit_of t a b
      → IfOk s (λ x. x.table ≡ t) → r ≡ s
  admit_determined (Ok x) (Ok y) p f q g = ap Ok (framed_once x y (f ∙ sym g) (ap (λ (c : Numbers). c.frame) (p ∙ sym q)))
  admit_determined (Ok x) (Err e) p f q g = absurd (apart x.frame e (p ∙ sym q))
  admit_determined (Err e) (Ok x) p f q g = absurd (apart x.frame e (q ∙ sym p))
  admit_determined (Err e) (Err d) p f q g = ap Err (told_once e d (ap (λ (c : Numbers). c.refusal) (p ∙ sym q)))
