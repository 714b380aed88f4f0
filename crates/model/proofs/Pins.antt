-- What a pin tells, and the pins of a job. Assumes nothing.
use mathlib.Core.Path.{◌≡◌, refl, sym, ap, ap₂}
use mathlib.Core.Bool.{Bool, true, false}
use Prim.Native.Nat.{ℕ, zero, suc, ◌+◌, ◌*◌, ◌≤◌, ◌<◌, zero-le}
use native.Mathlib.Nat.{le_of_suc-le, le_antisymm, mul-le-mul_left}
use native.Mathlib.Omega.{arith}
use lib.Dec.{leb}
use lib.Arith.{digits_div, digits_mod}
use borrow.Author.Tests.{ltb-true, leb-true}
use Rattle.basics.specs.Sum.{sum, bit}
use Rattle.model.specs.Model.{Model, Map}
use Rattle.model.specs.Pins.{size, pin, pins, pinned}
use Rattle.model.specs.Depths.{full}
use Rattle.basics.proofs.Bools.{and_left, and_right}
use Rattle.basics.proofs.Sums.{bit_le, sum_le}

pub size_le : (M : Model) (A B : Map) (t : ℕ) → ((i : ℕ) → i < M.rows → A t i ≡ true → B t i ≡ true) → size M A t ≤ size M B t
unfolding size
size_le M A B t h = sum_le M.rows (λ i l. mul-le-mul_left (M.weight i) (bit_le (A t i) (B t i) (h i l)))

module _ (M : Model) (A : Map) (i : ℕ) where
  pub pin_in : (t k : ℕ) → pin M A i t k ≡ true → A t i ≡ true
  unfolding pin
  pin_in t k e = and_left _ _ e

  pub pin_room : (t k : ℕ) → pin M A i t k ≡ true → size M A t ≤ M.capacity t
  unfolding pin
  pin_room t k e = leb-true _ _ (and_left _ _ (and_right (A t i) _ e))

  pub pin_wants : (t k : ℕ) → pin M A i t k ≡ true → k < M.execution i
  unfolding pin
  pin_wants t k e = ltb-true _ _ (and_right (leb (size M A t) (M.capacity t)) _ (and_right (A t i) _ e))

  pub pinned_in_lem : (t : ℕ) → pinned M A t i ≡ true → A t i ≡ true
  unfolding pinned
  pinned_in_lem t e = pin_in t _ e

  pub pinned_room : (t : ℕ) → pinned M A t i ≡ true → size M A t ≤ M.capacity t
  unfolding pinned
  pinned_room t e = pin_room t _ e

  -- a slot of job j, by its offset
  pub pinned_slot : (j o : ℕ) → o < M.period i → pinned M A (j * M.period i + o) i ≡ pin M A i (j * M.period i + o) (pins M A i j o)
  unfolding pinned
  pinned_slot j o l = rw (digits_div j l, digits_mod j l)

  pub pins_sum : (j o : ℕ) → o ≤ M.period i → pins M A i j o ≡ sum o (λ o. bit (pinned M A (j * M.period i + o) i))
  unfolding pins sum
  pins_sum j zero l = refl
  pins_sum j (suc o) l = ap₂ ◌+◌ (pins_sum j o (le_of_suc-le l)) (ap bit (sym (pinned_slot j o l)))

  step_le : (t k : ℕ) → k ≤ M.execution i → k + bit (pin M A i t k) ≤ M.execution i
  step_le t k l = go (pin M A i t k) (pin_wants t k)
    where
      go : (b : Bool) → (b ≡ true → k < M.execution i) → k + bit b ≤ M.execution i
      go true h = omega (arith, h refl)
      go false h = omega arith

  pub pins_le : (j o : ℕ) → pins M A i j o ≤ M.execution i
  unfolding pins
  pins_le j zero = zero-le
  pins_le j (suc o) = step_le (j * M.period i + o) (pins M A i j o) (pins_le j o)

  pub full_pins : (j : ℕ) → full M A i j ≡ true → pins M A i j (M.deadline i) ≡ M.execution i
  unfolding full
  full_pins j e = le_antisymm (pins_le j (M.deadline i)) (leb-true _ _ e)
