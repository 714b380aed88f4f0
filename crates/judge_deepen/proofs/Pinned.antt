-- A row's passes are the model's: the first C slots of a window whose sets have few enough rows are the pinned ones, and a job with C of them keeps those alone.
use mathlib.Core.Path.{◌≡◌, refl, sym, ap, ◌∙◌}
use mathlib.Core.Bool.{Bool, true, false, not, cond, ◌&&◌, ◌||◌, and_assoc}
use Prim.Native.Nat.{ℕ, zero, suc, ◌+◌, ◌-◌, ◌*◌, ◌/◌, ◌%◌, ◌≤◌, ◌<◌, min}
use native.Mathlib.Nat.{div-add-mod'}
use native.Mathlib.Omega.{arith}
use lib.Dec.{leb, ltb}
use Rattle.std.proofs.lemmas.Bool.Decides.{nat_tests}
use Rattle.basics.specs.Sum.{bit}
use Rattle.model.specs.Model.{Model, Map}
use Rattle.model.specs.Windows.{window}
use Rattle.model.specs.Pins.{size, pin, pins, pinned}
use Rattle.model.specs.Depths.{full, next}
use Rattle.model.proofs.Stop.{frame_room}
use Rattle.judge_first.proofs.Sequential.{row_of}
use Rattle.judge_jobs.specs.First.{tally, first}
use Rattle.judge_jobs.specs.Passes.{row_pin, row_map}
use Rattle.judge_jobs.proofs.Tally.{tally_zero, tally_suc, tally_ext, first_ext}

-- available, in a slot whose set has few enough rows
unfoldable pub few_enough : Model → Map → Map
few_enough M A s i = A s i && leb (size M A s) (M.capacity s)

-- ---- counting no further than c
min_step : (c n : ℕ) (b : Bool) → min c n + bit (b && ltb (min c n) c) ≡ min c (n + bit b)
min_step c n b = grind (arith, nat_tests)

min_ltb : (c n : ℕ) → ltb (min c n) c ≡ ltb n c
min_ltb c n = grind (arith, nat_tests)

min_leb : (c n : ℕ) → leb c (min c n) ≡ leb c n
min_leb c n = grind (arith, nat_tests)

-- the map that is not there outside the windows, and whose next is inside it
choice : (w f p a : Bool) → (w ≡ false → a ≡ false) → (w && (p || not f) ≡ true → a ≡ true) → cond w (cond f p a) a ≡ w && (p || not f)
choice w f p a g k = grind arith

-- ---- a row
module _ (M : Model) (A : Map) (i : ℕ) where
  -- a job's pins are its slots with few enough rows, as far as C
  pins_tally : (j o : ℕ) → pins M A i j o ≡ min (M.execution i) (tally (λ s. few_enough M A s i) (j * M.period i) o)
  unfolding pins pin few_enough
  pins_tally j zero = rw (tally_zero (λ s. few_enough M A s i) (j * M.period i)) (omega arith)
  pins_tally j (suc o) =
      let p : ℕ → Bool = λ s. few_enough M A s i in
      let b = j * M.period i in
      rw (tally_suc p b o, pins_tally j o)
      (ap (λ (x : Bool). min (M.execution i) (tally p b o) + bit x) (sym (and_assoc (A (b + o) i) (leb (size M A (b + o)) (M.capacity (b + o))) (ltb (min (M.execution i) (tally p b o)) (M.execution i))))
      ∙ min_step (M.execution i) (tally p b o) (p (b + o)))

  first_pinned : (s : ℕ) → first (M.execution i) (λ s. few_enough M A s i) (s / M.period i * M.period i) s ≡ pinned M A s i
  unfolding first pinned pin few_enough
  first_pinned s =
      let p : ℕ → Bool = λ s. few_enough M A s i in
      let b = s / M.period i * M.period i in
      let d : s - b ≡ s % M.period i = omega (arith, div-add-mod' s (M.period i)) in
      rw (d, pins_tally (s / M.period i) (s % M.period i), min_ltb (M.execution i) (tally p b (s % M.period i)))
      (and_assoc (A s i) (leb (size M A s) (M.capacity s)) (ltb (tally p b (s % M.period i)) (M.execution i)))

  tally_full : (j : ℕ) → leb (M.execution i) (tally (λ s. few_enough M A s i) (j * M.period i) (M.deadline i)) ≡ full M A i j
  unfolding full
  tally_full j = sym (rw (pins_tally j (M.deadline i)) (min_leb (M.execution i) (tally (λ s. few_enough M A s i) (j * M.period i) (M.deadline i))))

  module _ (p : ℕ → Bool) (h : ℕ) (T : 0 < M.period i) (F : h % M.period i ≡ 0) (D : M.deadline i ≤ M.period i)
      (agree : (s : ℕ) → s < h → p s ≡ few_enough M A s i) (s : ℕ) (l : s < h) (inside : A s i ≡ true → window M s i ≡ true) where
    outside : window M s i ≡ false → A s i ≡ false
    outside e = grind arith

    pinned_outside : window M s i ≡ false → pinned M A s i ≡ false
    unfolding pinned pin
    pinned_outside e = rw (outside e)

    few_outside : window M s i ≡ false → few_enough M A s i ≡ false
    unfolding few_enough
    few_outside e = rw (outside e)

    firsts : first (M.execution i) p (s / M.period i * M.period i) s ≡ pinned M A s i
    firsts =
        first_ext (M.execution i) p (λ s. few_enough M A s i) (s / M.period i * M.period i) s (omega (arith, div-add-mod' s (M.period i)))
        (λ k j m. agree k (omega arith))
        ∙ first_pinned s

    counted : leb (M.execution i) (tally p (s / M.period i * M.period i) (M.deadline i)) ≡ full M A i (s / M.period i)
    counted =
        ap (leb (M.execution i)) (tally_ext p (λ s. few_enough M A s i) (s / M.period i * M.period i) (M.deadline i)
        (λ k j. agree (s / M.period i * M.period i + k) (omega (arith, frame_room (M.period i) s h T l F))))
        ∙ tally_full (s / M.period i)

    -- what a row leaves of the pins
    pub row_pinned : row_pin (row_of M i) p s ≡ pinned M A s i
    unfolding row_pin window
    row_pinned = go (ltb (s % M.period i) (M.deadline i)) refl
      where
        go : (b : Bool) → ltb (s % M.period i) (M.deadline i) ≡ b → cond b (first (M.execution i) p (s / M.period i * M.period i) s) (p s) ≡ pinned M A s i
        go true e = firsts
        go false e = agree s l ∙ few_outside e ∙ sym (pinned_outside e)

    -- and of the map
    pub row_next : (a : ℕ → Bool) → a s ≡ A s i → (next M A s i ≡ true → A s i ≡ true) → row_map (row_of M i) p a s ≡ next M A s i
    unfolding row_map next window
    row_next a e less =
        rw (counted, firsts, e)
        (choice (ltb (s % M.period i) (M.deadline i)) (full M A i (s / M.period i)) (pinned M A s i) (A s i) outside less)
