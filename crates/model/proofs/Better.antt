-- Demand 3: a valid schedule gives, for each depth, one that runs rows only where that depth has them.
use mathlib.Core.Path.{◌≡◌, refl, sym, ap, ◌∙◌}
use mathlib.Core.Logic.{◌⊎◌, ⊎_elim}
use mathlib.Core.Bool.{Bool, true, false, not, cond}
use Prim.Native.Nat.{ℕ, zero, suc, ◌+◌, ◌*◌, ◌/◌, ◌≤◌, ◌<◌}
use native.Mathlib.Nat.{le_trans, lt_of_lt_of_le, not-le_of_lt}
use lib.Dec.{leb}
use lib.Arith.{digits_div}
use borrow.Author.Tests.{leb-true, leb-false}
use Rattle.basics.specs.Sum.{sum, bit}
use Rattle.model.specs.Model.{Model, Sound, Map}
use Rattle.model.specs.Windows.{window}
use Rattle.model.specs.Pins.{size, pinned}
use Rattle.model.specs.Depths.{full, next, available}
use Rattle.model.specs.Schedule.{Valid, Within}
use Rattle.std.specs.Cmp.Derive.{both_true}
use Rattle.std.proofs.lemmas.Bool.{cases_Bool}
use Rattle.basics.proofs.Bools.{and_left, or_left, or_right, cond_cases}
use Rattle.basics.proofs.Sums.{sum_eq}
use Rattle.model.proofs.Pins.{size_le, pinned_in_lem, pinned_room, pins_sum, full_pins}

-- the pins for the jobs that are full, S for the others
unfoldable pub better : Model → Map → Map → Map
better M A S t i = cond (full M A i (t / M.period i)) (pinned M A t i) (S t i)

pub next_window : (M : Model) (A : Map) (t i : ℕ) → next M A t i ≡ true → window M t i ≡ true
unfolding next
next_window M A t i e = and_left _ _ e

module _ (M : Model) (G : Sound M) (H : ℕ) (A : Map) (in_a : (t i : ℕ) → A t i ≡ true → window M t i ≡ true)
    (S : Map) (ok : Valid M H S) (W : Within M H S A) where
  better_cases : (t i : ℕ) → better M A S t i ≡ true
      → ((full M A i (t / M.period i) ≡ true) × (pinned M A t i ≡ true)) ⊎ ((full M A i (t / M.period i) ≡ false) × (S t i ≡ true))
  unfolding better
  better_cases t i e = cond_cases _ _ _ e

  better_next : Within M H (better M A S) (next M A)
  unfolding Within next
  better_next t i l k e =
      ⊎_elim (λ w. both_true (in_a t i (pinned_in_lem M A i t w.1)) (or_left _ w.1))
      (λ w. both_true (ok.inside t i l k w.1) (or_right (pinned M A t i) (ap not w.0)))
      (better_cases t i e)

  better_runs : (i j : ℕ) → i < M.rows → j * M.period i < H → sum (M.deadline i) (λ o. bit (better M A S (j * M.period i + o) i)) ≡ M.execution i
  unfolding better
  better_runs i j k l =
      sum_eq (M.deadline i) (λ o h. ap (λ (x : ℕ). bit (cond (full M A i x) (pinned M A (j * M.period i + o) i) (S (j * M.period i + o) i)))
      (digits_div j (lt_of_lt_of_le h (G.apart i k))))
      ∙ go (full M A i j) refl
    where
      go : (b : Bool) → full M A i j ≡ b → sum (M.deadline i) (λ o. bit (cond b (pinned M A (j * M.period i + o) i) (S (j * M.period i + o) i))) ≡ M.execution i
      go true e = sym (pins_sum M A i j (M.deadline i) (G.apart i k)) ∙ full_pins M A i j e
      go false e = ok.runs i j k l

  better_fits : (t : ℕ) → t < H → size M (better M A S) t ≤ M.capacity t
  unfolding Within
  better_fits t l = ⊎_elim small large (cases_Bool (leb (size M A t) (M.capacity t)))
    where
      small : leb (size M A t) (M.capacity t) ≡ true → size M (better M A S) t ≤ M.capacity t
      small e =
          le_trans (size_le M (better M A S) A t (λ i k e. ⊎_elim (λ w. pinned_in_lem M A i t w.1) (λ w. W t i l k w.1) (better_cases t i e)))
          (leb-true _ _ e)

      large : leb (size M A t) (M.capacity t) ≡ false → size M (better M A S) t ≤ M.capacity t
      large e =
          le_trans (size_le M (better M A S) S t (λ i k f. ⊎_elim (λ w. absurd (not-le_of_lt (leb-false _ _ e) (pinned_room M A i t w.1))) (λ w. w.1) (better_cases t i f)))
          (ok.fits t l)

  better_valid : Valid M H (better M A S)
  unfolding Within
  better_valid = record {
    inside = λ t i l k e. next_window M A t i (better_next t i l k e);
    runs = better_runs;
    fits = better_fits;
  }

pub available_window : (M : Model) (y t i : ℕ) → available M y t i ≡ true → window M t i ≡ true
unfolding available
available_window M zero t i e = e
available_window M (suc zero) t i e = e
available_window M (suc (suc y)) t i e = next_window M (available M (suc y)) t i e

deeper : (M : Model) → Sound M → (H : ℕ) (S : Map) → Valid M H S → (y : ℕ) → (S' : Map) × Valid M H S' × Within M H S' (available M (suc y))
unfolding available Within
deeper M G H S ok zero = (S, ok, ok.inside)
deeper M G H S ok (suc y) =
    let p = deeper M G H S ok y in
    let A = available M (suc y) in
    (better M A p.0, better_valid M G H A (available_window M (suc y)) p.0 p.1 p.2, better_next M G H A (available_window M (suc y)) p.0 p.1 p.2)

-- demand 3: for each depth a valid schedule that runs only rows of that depth's available sets
pub demand3 : (M : Model) → Sound M → (H : ℕ) (S : Map) → Valid M H S → (y : ℕ) → (S' : Map) × Valid M H S' × Within M H S' (available M y)
unfolding available Within
demand3 M G H S ok zero = (S, ok, ok.inside)
demand3 M G H S ok (suc y) = deeper M G H S ok y
