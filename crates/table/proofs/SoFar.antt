-- What is seen after i rows, and that what it comes to at the end is the check of those rows: once for a table's rows and a list's.
use mathlib.Core.Path.{◌≡◌, refl, sym, ap, ap₂, subst, ◌∙◌}
use mathlib.Core.Bool.{Bool, true, false, cond}
use mathlib.Core.Logic.{◌⊎◌, inl, inr, ⊎_elim}
use Prim.Native.Nat.{ℕ, suc, ◌+◌, ◌≤◌, ◌<◌}
use native.Mathlib.Numerals.{add-one}
use native.Mathlib.Omega.{arith}
use lib.Dec.{eqb}
use borrow.Author.Count.{below_none, below_more}
use borrow.Author.Tests.{lt-ltb, le-ltb, le-leb, lt-leb, eq-eqb, ne_eqb, eqb-true, eqb-false, not-true, not-false}
use Rattle.std.proofs.lemmas.Bool.{cases_Bool}
use Rattle.basics.proofs.Bools.{lt_or_ge}
use Rattle.table_row.specs.declared.Row.{Row}
use Rattle.table.specs.declared.Beside.{Beside}
use Rattle.refusal.specs.Refusal.{Numbered, in_row}
use Rattle.table_row.specs.Divisor.{multiple}
use Rattle.table.specs.Frame.{frame_of}
use Rattle.table_row.specs.Row.{row_refusal, faulty}
use Rattle.table.specs.Check.{check_each, check_rows}
use Rattle.basics.specs.Range.{inside}
use Rattle.basics.proofs.Range.{inside_of, inside_not}
use Rattle.table.specs.Seen.{SeenNumbers, none_seen, one_more, counted, faulted, taken, step_of, seen_each, ranges, finish_of}
use Rattle.table_row.proofs.Divisor.{multiple_pos}
use Rattle.table.proofs.Frame.{frame_zero, frame_suc}
use Rattle.basics.proofs.Least.{least_found, least_none}
use Rattle.table_row.proofs.Ranges.{in_order}
use Rattle.table.proofs.Steps.{Small, frame_over, frame_whole, each_faulty, each_fine}
use Rattle.table_row.specs.Limits.{most_rows, most_slots}

-- the first i rows are in order
abbrev Fine : (ℕ → Row) → ℕ → Type 0
Fine row i = (k : ℕ) → k < i → faulty (row k) ≡ false

abbrev periods : (ℕ → Row) → ℕ → ℕ
periods row j = (row j).period

-- where the first i rows have come to: a faulty one, a multiple that went over, or neither
pub data Stage (row : ℕ → Row) (i : ℕ) (s : SeenNumbers) : Type 0 where
  fault : (k : ℕ) → s.fault ≡ in_row (row_refusal (row k)) k → k < i → Fine row k → faulty (row k) ≡ true → Stage row i s
  over : s.fault.no ≡ 0 → Fine row i → s.last < i → Small row s.last → s.frame ≡ frame_of (periods row) (suc s.last) → most_slots < s.frame → Stage row i s
  small : s.fault.no ≡ 0 → Fine row i → Small row i → s.frame ≡ frame_of (periods row) i → 0 < s.frame → s.frame ≤ most_slots → Stage row i s

-- i rows are seen, with a given beside them
pub record SoFar (a : Beside) (row : ℕ → Row) (i : ℕ) (s : SeenNumbers) : Type 0 where
  pub beside : s.beside ≡ a
  pub few : i ≤ most_rows → (s.count ≡ i) × Stage row i s
  pub many : most_rows < i → s.count ≡ most_rows + 1

is_faulty : (y : Row) → faulty y ≡ true → row_refusal y ≡ 0 → ⊥
unfolding faulty
is_faulty y e = eqb-false _ _ (not-true _ e)

not_faulty : (y : Row) → faulty y ≡ false → row_refusal y ≡ 0
unfolding faulty
not_faulty y e = eqb-true _ _ (not-false _ e)

-- a step, by the tests
module _ (s : SeenNumbers) (y : Row) where
  step_after_fault : (s.fault.no ≡ 0 → ⊥) → counted s ≡ step_of s y
  unfolding step_of
  step_after_fault f = rw (ne_eqb s.fault.no 0 f)

  step_fault : s.fault.no ≡ 0 → faulty y ≡ true → faulted s y ≡ step_of s y
  unfolding step_of
  step_fault p e = rw (eq-eqb s.fault.no 0 p, ne_eqb (row_refusal y) 0 (is_faulty y e))

  step_over : s.fault.no ≡ 0 → faulty y ≡ false → most_slots < s.frame → counted s ≡ step_of s y
  unfolding step_of
  step_over p e h = rw (eq-eqb s.fault.no 0 p, eq-eqb (row_refusal y) 0 (not_faulty y e), inside_not 1 s.frame most_slots (λ l g. omega arith))

  step_taken : s.fault.no ≡ 0 → faulty y ≡ false → 0 < s.frame → s.frame ≤ most_slots → taken s y ≡ step_of s y
  unfolding step_of
  step_taken p e h g = rw (eq-eqb s.fault.no 0 p, eq-eqb (row_refusal y) 0 (not_faulty y e), inside_of 1 s.frame most_slots h g)

  -- whatever the tests say
  step_always : ((step_of s y).beside ≡ s.beside) × ((step_of s y).count ≡ one_more s.count)
  unfolding step_of
  step_always = go (eqb s.fault.no 0) (eqb (row_refusal y) 0) (inside 1 s.frame most_slots)
    where
      go : (a b d : Bool) → let u = cond a (cond b (cond d (taken s y) (counted s)) (faulted s y)) (counted s)
          in (u.beside ≡ s.beside) × (u.count ≡ one_more s.count)
      go true true true = (refl, refl)
      go true true false = (refl, refl)
      go true false d = (refl, refl)
      go false b d = (refl, refl)

module _ (row : ℕ → Row) where
  after_fault : (s : SeenNumbers) → s.fault.no ≡ 0 → Fine row s.count → faulty (row s.count) ≡ true → Stage row (s.count + 1) (faulted s (row s.count))
  after_fault s p f e = fault s.count refl (omega arith) f e

  after_taken : (s : SeenNumbers) → s.fault.no ≡ 0 → Fine row (s.count + 1) → Small row s.count → s.frame ≡ frame_of (periods row) s.count → 0 < s.frame
      → 0 < (row s.count).period → Stage row (s.count + 1) (taken s (row s.count))
  after_taken s p f g q h l = ⊎_elim
      (λ o. over p f (omega arith) g next o)
      (λ o. small p f (below_more _ _ g (le-ltb _ _ (rw next at o))) (next ∙ ap (frame_of (periods row)) (sym (add-one s.count))) (multiple_pos _ _ h l) o)
      (lt_or_ge most_slots (multiple s.frame (row s.count).period))
    where
      next : multiple s.frame (row s.count).period ≡ frame_of (periods row) (suc s.count)
      next = ap (λ (k : ℕ). multiple k (row s.count).period) q ∙ sym (frame_suc (periods row) s.count)

  -- the refusal that is kept has a number
  still : (s : SeenNumbers) (k : ℕ) → s.fault ≡ in_row (row_refusal (row k)) k → faulty (row k) ≡ true → s.fault.no ≡ 0 → ⊥
  still s k e g z = is_faulty (row k) g (sym (ap (λ (r : Numbered). r.no) e) ∙ z)

  stage_step : (s : SeenNumbers) → Stage row s.count s → Stage row (s.count + 1) (step_of s (row s.count))
  stage_step s (fault k e l f g) =
      subst (Stage row (s.count + 1)) (step_after_fault s (row s.count) (still s k e g)) (fault k e (omega arith) f g)
  stage_step s (over p f l g q h) = ⊎_elim
      (λ e. subst (Stage row (s.count + 1)) (step_fault s (row s.count) p e) (after_fault s p f e))
      (λ e. subst (Stage row (s.count + 1)) (step_over s (row s.count) p e h) (over p (below_more _ _ f e) (omega arith) g q h))
      (cases_Bool (faulty (row s.count)))
  stage_step s (small p f g q h l) = ⊎_elim
      (λ e. subst (Stage row (s.count + 1)) (step_fault s (row s.count) p e) (after_fault s p f e))
      (λ e. subst (Stage row (s.count + 1)) (step_taken s (row s.count) p e h l)
      (after_taken s p (below_more _ _ f e) g q h (in_order (row s.count) (not_faulty _ e)).period_low))
      (cases_Bool (faulty (row s.count)))

  pub so_far_none : (a : Beside) → SoFar a row 0 (none_seen a)
  so_far_none a = record {
    beside = refl;
    few = λ h. (refl, small refl (below_none _) (below_none _) (sym (frame_zero _)) (omega arith) (omega arith));
    many = λ h. absurd (omega arith);
  }

  pub so_far_step : (a : Beside) (i : ℕ) (s : SeenNumbers) → SoFar a row i s → SoFar a row (i + 1) (step_of s (row i))
  unfolding one_more
  so_far_step a i s g = record {
    beside = (step_always s (row i)).0 ∙ g.beside;
    few = λ h.
        let now = g.few (omega arith) in
        let c : s.count ≡ i = now.0 in (
          (step_always s (row i)).1 ∙ rw (lt-ltb s.count most_rows (omega arith)) (ap (λ (k : ℕ). k + 1) c),
          subst (λ (j : ℕ). Stage row (j + 1) (step_of s (row j))) c (stage_step s (subst (λ (j : ℕ). Stage row j s) (sym c) now.1)),
        );
    many = λ h. (step_always s (row i)).1 ∙ rw (le-ltb s.count most_rows (full (lt_or_ge most_rows i) h)) refl;
  }
    where
      full : (most_rows < i) ⊎ (i ≤ most_rows) → most_rows < i + 1 → most_rows ≤ s.count
      full (inl l) h = omega (arith, g.many l)
      full (inr l) h = omega (arith, (g.few l).0)

  -- all rows seen: "rows upward, in each 4, 5, 6; then 7"
  stage_all : (n : ℕ) (s : SeenNumbers) → Stage row n s → seen_each s ≡ check_each n row
  unfolding seen_each
  stage_all n s (fault k e l f g) =
      rw (ne_eqb s.fault.no 0 (still s k e g), e) (each_faulty n row k (row_refusal (row k)) (least_found _ n k f g l) l refl)
  stage_all n s (over p f l g q h) =
      rw (eq-eqb s.fault.no 0 p, lt-leb s.frame most_slots h)
      (frame_over n row s.last g (rw q at h) l ∙ each_fine n row n (least_none _ n f) (omega arith))
  stage_all n s (small p f g q h l) =
      rw (eq-eqb s.fault.no 0 p, le-leb s.frame most_slots l)
      (frame_whole n row n s.frame refl g q ∙ each_fine n row n (least_none _ n f) (omega arith))

  pub so_far_all : (a : Beside) (n : ℕ) (s : SeenNumbers) → SoFar a row n s → finish_of s ≡ check_rows a n row
  unfolding finish_of check_rows ranges
  so_far_all a n s g =
      ap (λ (b : Beside). ranges b s.count (seen_each s)) g.beside
      ∙ ⊎_elim
      (λ h. rw (g.many h, inside_not 1 n most_rows (λ l g. omega arith), inside_not 1 (most_rows + 1) most_rows (λ l g. omega arith)))
      (λ h. ap₂ (ranges a) (g.few h).0 (stage_all n s (g.few h).1))
      (lt_or_ge most_rows n)
