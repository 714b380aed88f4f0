-- The available sets never grow with depth, and the pinned sets are inside them.
use mathlib.Core.Path.{◌≡◌, refl, sym, ap, ◌∙◌}
use mathlib.Core.Logic.{◌⊎◌, inl, inr, ⊎_elim}
use mathlib.Core.Bool.{Bool, true, false, not, false≢true}
use Prim.Native.Nat.{ℕ, zero, suc, ◌+◌, ◌*◌, ◌/◌, ◌≤◌, ◌<◌}
use native.Mathlib.Nat.{le_refl, le_trans, lt_of_lt_of_le, le_of_suc-le, le-min, min-le_left, min-le_right}
use native.Mathlib.Decide.{le_ind}
use lib.Arith.{digits_div, digits_mod}
use borrow.Author.Tests.{lt-ltb, le-leb, not-true}
use Rattle.basics.specs.Sum.{bit}
use Rattle.model.specs.Model.{Model, Sound, Map}
use Rattle.model.specs.Windows.{window}
use Rattle.model.specs.Pins.{size, pin, pins, pinned}
use Rattle.model.specs.Depths.{full, next, available, pinned_at}
use Rattle.model.specs.Supply.{supply, usable}
use Rattle.std.specs.Cmp.Derive.{both_true}
use Rattle.std.proofs.lemmas.Bool.{or_cases, cases_Bool}
use Rattle.std.specs.Cmp.{both_ways}
use Rattle.basics.proofs.Bools.{and_right, or_left, or_right, clash}
use Rattle.basics.proofs.Sums.{sum_le}
use Rattle.model.proofs.Pins.{size_le, pin_in, pin_room, pin_wants, pinned_in_lem, pinned_slot}
use Rattle.model.proofs.Better.{next_window}

abbrev pub Under : Model → Map → Map → Type 0
Under M A B = (t i : ℕ) → i < M.rows → A t i ≡ true → B t i ≡ true

pub pin_make : (M : Model) (A : Map) (i t k : ℕ) → A t i ≡ true → size M A t ≤ M.capacity t → k < M.execution i → pin M A i t k ≡ true
unfolding pin
pin_make M A i t k a r w = both_true a (both_true (le-leb _ _ r) (lt-ltb _ _ w))

pub next_cases : (M : Model) (A : Map) (t i : ℕ) → next M A t i ≡ true → (pinned M A t i ≡ true) ⊎ (full M A i (t / M.period i) ≡ false)
unfolding next
next_cases M A t i e =
    ⊎_elim inl (λ g. inr (not-true _ g)) (or_cases _ _ (and_right (window M t i) _ e))

pub next_pinned : (M : Model) (A : Map) (t i : ℕ) → window M t i ≡ true → pinned M A t i ≡ true → next M A t i ≡ true
unfolding next
next_pinned M A t i w p = both_true w (or_left _ p)

pub next_open : (M : Model) (A : Map) (t i : ℕ) → window M t i ≡ true → full M A i (t / M.period i) ≡ false → next M A t i ≡ true
unfolding next
next_open M A t i w p = both_true w (or_right (pinned M A t i) (ap not p))

pub window_slot : (M : Model) → Sound M → (i j o : ℕ) → i < M.rows → o < M.deadline i → window M (j * M.period i + o) i ≡ true
unfolding window
window_slot M G i j o k l = rw (digits_mod j (lt_of_lt_of_le l (G.apart i k))) (lt-ltb _ _ l)

module _ (M : Model) (G : Sound M) (A : Map) (below : Under M (next M A) A) where
  -- a slot of a full job is pinned as before
  repeats : (i j : ℕ) → i < M.rows → full M A i j ≡ true → (o : ℕ) → o < M.deadline i
      → pin M (next M A) i (j * M.period i + o) (pins M A i j o) ≡ pin M A i (j * M.period i + o) (pins M A i j o)
  repeats i j k f o l = both_ways _ _ there back
    where
      t : ℕ
      t = j * M.period i + o

      there : pin M (next M A) i t (pins M A i j o) ≡ true → pin M A i t (pins M A i j o) ≡ true
      there e =
          ⊎_elim (λ p. sym (pinned_slot M A i j o (lt_of_lt_of_le l (G.apart i k))) ∙ p)
          (λ g. clash f (ap (full M A i) (sym (digits_div j (lt_of_lt_of_le l (G.apart i k)))) ∙ g))
          (next_cases M A t i (pin_in M (next M A) i t _ e))

      back : pin M A i t (pins M A i j o) ≡ true → pin M (next M A) i t (pins M A i j o) ≡ true
      back e =
          pin_make M (next M A) i t (pins M A i j o)
          (next_pinned M A t i (window_slot M G i j o k l) (pinned_slot M A i j o (lt_of_lt_of_le l (G.apart i k)) ∙ e))
          (le_trans (size_le M (next M A) A t (below t)) (pin_room M A i t _ e))
          (pin_wants M A i t _ e)

  -- a job that is full keeps its pins
  keeps : (i j : ℕ) → i < M.rows → full M A i j ≡ true → (o : ℕ) → o ≤ M.deadline i → pins M (next M A) i j o ≡ pins M A i j o
  unfolding pins
  keeps i j k f zero l = refl
  keeps i j k f (suc o) l =
      rw (keeps i j k f o (le_of_suc-le l)) (ap (λ (b : Bool). pins M A i j o + bit b) (repeats i j k f o l))

  keeps_full : (i j : ℕ) → i < M.rows → full M A i j ≡ true → full M (next M A) i j ≡ true
  unfolding full
  keeps_full i j k f = rw (keeps i j k f (M.deadline i) (le_refl (M.deadline i))) f

  shrinks : Under M (next M (next M A)) (next M A)
  shrinks t i k e =
      ⊎_elim (pinned_in_lem M (next M A) i t)
      (λ g. ⊎_elim (λ f. clash (keeps_full i (t / M.period i) k f) g) (next_open M A t i (next_window M (next M A) t i e)) (cases_Bool (full M A i (t / M.period i))))
      (next_cases M (next M A) t i e)

shrinks_deeper : (M : Model) → Sound M → (y : ℕ) → Under M (available M (suc (suc y))) (available M (suc y))
unfolding available
shrinks_deeper M G zero = λ t i k e. next_window M (window M) t i e
shrinks_deeper M G (suc y) = shrinks M G (available M (suc y)) (shrinks_deeper M G y)

-- "the available sets never grow with depth", one depth and any number of depths further
pub available_shrinks : (M : Model) → Sound M → (y : ℕ) → Under M (available M (suc y)) (available M y)
unfolding available
available_shrinks M G zero = λ t i k e. e
available_shrinks M G (suc y) = shrinks_deeper M G y

pub available_deeper : (M : Model) → Sound M → (x y : ℕ) → x ≤ y → Under M (available M y) (available M x)
available_deeper M G x y h =
    le_ind (λ z. Under M (available M z) (available M x)) (λ t i k e. e) (λ z l ih t i k e. ih t i k (available_shrinks M G z t i k e)) y h

-- pinned sets are inside the available sets
pub pinned_inside : (M : Model) (y : ℕ) → Under M (pinned_at M y) (available M y)
unfolding pinned_at
pinned_inside M zero t i k e = absurd (false≢true e)
pinned_inside M (suc y) t i k e = pinned_in_lem M (available M (suc y)) i t e

pub supply_le : (M : Model) (A B : Map) → Under M A B → (t : ℕ) → supply M A t ≤ supply M B t
unfolding supply usable
supply_le M A B h t =
    sum_le t (λ s l. le-min (min-le_left (M.capacity s) (size M A s)) (le_trans (min-le_right (M.capacity s) (size M A s)) (size_le M A B s (h s))))

-- raising the depth never raises the supply
pub supply_deeper : (M : Model) → Sound M → (x y : ℕ) → x ≤ y → (t : ℕ) → supply M (available M y) t ≤ supply M (available M x) t
supply_deeper M G x y h t = supply_le M (available M y) (available M x) (available_deeper M G x y h) t
