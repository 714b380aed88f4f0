-- Maps that agree on a frame have the same next map there; so once a depth changes nothing, no later depth does.
use mathlib.Core.Path.{◌≡◌, refl, ap, ap₂, ◌∙◌}
use mathlib.Core.Bool.{Bool}
use Prim.Native.Nat.{ℕ, zero, suc, ◌+◌, ◌*◌, ◌/◌, ◌%◌, ◌≤◌, ◌<◌, min}
use native.Mathlib.Nat.{div-add-mod', div-lt_iff_lt-mul, mul-le-mul_right, suc-mul, add-zero, add-suc, lt_of_lt_of_le}
use native.Mathlib.Omega.{arith}
use Rattle.basics.specs.Sum.{bit}
use Rattle.model.specs.Model.{Model, Sound, Map}
use Rattle.model.specs.Pins.{size, pin, pins, pinned}
use Rattle.model.specs.Depths.{full, next, available}
use Rattle.model.specs.Supply.{usable, supply}
use Rattle.basics.proofs.Sums.{sum_eq}

-- the whole period of a slot of the frame lies in the frame
pub frame_room : (t s h : ℕ) → 0 < t → s < h → h % t ≡ 0 → s / t * t + t ≤ h
frame_room t s h p l e =
    let f : h / t * t ≡ h = omega (arith, div-add-mod' h t, e) in
    let d : suc (s / t) ≤ h / t = (div-lt_iff_lt-mul p).1 (omega arith) in
    omega (arith, mul-le-mul_right t d, suc-mul (s / t) t)

-- two maps agree on the frame
abbrev pub Agree : Model → ℕ → Map → Map → Type 0
Agree M h A B = (s i : ℕ) → s < h → i < M.rows → A s i ≡ B s i

module _ (M : Model) (G : Sound M) (h : ℕ) (W : (i : ℕ) → i < M.rows → h % M.period i ≡ 0) where
  pos : (i : ℕ) → i < M.rows → 0 < M.period i
  pos i k = omega (arith, G.some i k, G.room i k, G.apart i k)

  module _ (A B : Map) (e : Agree M h A B) where
    size_same : (s : ℕ) → s < h → size M A s ≡ size M B s
    unfolding size
    size_same s l = sum_eq M.rows (λ i k. ap (λ (b : Bool). M.weight i * bit b) (e s i l k))

    pin_same : (i s : ℕ) {k k' : ℕ} → i < M.rows → s < h → k ≡ k' → pin M A i s k ≡ pin M B i s k'
    unfolding pin
    pin_same i s k l q = rw (e s i l k, size_same s l, q)

    pins_same : (i j o : ℕ) → i < M.rows → j * M.period i + o ≤ h → pins M A i j o ≡ pins M B i j o
    unfolding pins
    pins_same i j zero k l = refl
    pins_same i j (suc o) k l =
        let q = pins_same i j o k (omega arith) in
        ap₂ (λ (x : ℕ) (b : Bool). x + bit b) q (pin_same i (j * M.period i + o) k (omega arith) q)

    pub pinned_same : Agree M h (pinned M A) (pinned M B)
    unfolding pinned
    pinned_same s i l k = pin_same i s k l (pins_same i (s / M.period i) (s % M.period i) k (omega (arith, div-add-mod' s (M.period i))))

    -- and the same supply
    pub supply_same : (t : ℕ) → t ≤ h → supply M A t ≡ supply M B t
    unfolding supply usable
    supply_same t l = sum_eq t (λ s k. ap (min (M.capacity s)) (size_same s (lt_of_lt_of_le k l)))

    pub next_same : Agree M h (next M A) (next M B)
    unfolding next full
    next_same s i l k =
        let f = frame_room (M.period i) s h (pos i k) l (W i k) in
        rw (pinned_same s i l k, pins_same i (s / M.period i) (M.deadline i) k (omega (arith, f, G.apart i k)))

  -- once a depth changes nothing on the frame, no later depth does
  pub stop : (y : ℕ) → Agree M h (available M (suc (suc y))) (available M (suc y)) → (k : ℕ) → Agree M h (available M (suc (y + k))) (available M (suc y))
  unfolding available
  stop y e zero = λ s i l j. ap (λ (z : ℕ). available M (suc z) s i) (add-zero y)
  stop y e (suc k) = λ s i l j.
      ap (λ (z : ℕ). available M (suc z) s i) (add-suc y k)
      ∙ next_same (available M (suc (y + k))) (available M (suc y)) (stop y e k) s i l j ∙ e s i l j

  -- and the pinned sets stay as well
  pub stop_pins : (y : ℕ) → Agree M h (available M (suc (suc y))) (available M (suc y)) → (k : ℕ) → Agree M h (pinned M (available M (suc (y + k)))) (pinned M (available M (suc y)))
  stop_pins y e k = pinned_same (available M (suc (y + k))) (available M (suc y)) (stop y e k)
