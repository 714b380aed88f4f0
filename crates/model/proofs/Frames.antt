-- Frames repeat: the jobs due, the work due and the supply of any length are those of whole frames and of the rest.
use mathlib.Core.Path.{◌≡◌, refl, sym, ap, ap₂, ◌∙◌}
use mathlib.Core.Logic.{◌↔◌}
use mathlib.Core.Bool.{Bool, true, false, cond}
use Prim.Native.Nat.{ℕ, zero, suc, ◌+◌, ◌*◌, ◌-◌, ◌/◌, ◌%◌, ◌≤◌, ◌<◌, min}
use native.Mathlib.Nat.{zero-add, add-zero, add_assoc, add_comm, suc-mul, zero-mul, add-mul, mul-add, div-mul_cancel, mul-add-div_right, mul-add-mod_self_right, add-div_right, div-eq_of_lt, le-div_iff_mul-le}
use native.Mathlib.Omega.{arith}
use lib.Dec.{leb}
use borrow.Author.Tests.{leb-true, leb-false}
use Rattle.basics.specs.Sum.{sum, bit}
use Rattle.model.specs.Model.{Model, Sound, Frame, Map}
use Rattle.model.specs.Windows.{window}
use Rattle.model.specs.Pins.{size, pin, pins, pinned}
use Rattle.model.specs.Depths.{full, next, available}
use Rattle.model.specs.Supply.{supply, usable}
use Rattle.model.specs.Work.{jobs_due, work_due}
use Rattle.basics.proofs.Sums.{sum_eq, sum_add, sum_cut}

-- a count that a frame raises by the same, wherever it starts
pub frames : (f : ℕ → ℕ) (H : ℕ) → ((r : ℕ) → f (H + r) ≡ f H + f r) → (q r : ℕ) → f (q * H + r) ≡ q * f H + f r
frames f H h zero r = rw (zero-mul H, zero-add r, zero-mul (f H), zero-add (f r))
frames f H h (suc q) r =
    ap f (ap (λ (x : ℕ). x + r) (suc-mul q H) ∙ ap (λ (x : ℕ). x + r) (add_comm (q * H) H) ∙ add_assoc H (q * H) r)
    ∙ h (q * H + r) ∙ ap (λ (x : ℕ). f H + x) (frames f H h q r) ∙ rw (suc-mul q (f H)) (omega arith)

module _ (M : Model) (G : Sound M) where
  pub pos : (i : ℕ) → i < M.rows → 0 < M.period i
  pos i k = omega (arith, G.some i k, G.room i k, G.apart i k)

  pub jobs_closed : (i t : ℕ) → i < M.rows → jobs_due M i t ≡ (t + (M.period i - M.deadline i)) / M.period i
  unfolding jobs_due
  jobs_closed i t k = go (leb (M.deadline i) t) refl
    where
      go : (b : Bool) → leb (M.deadline i) t ≡ b → cond b ((t - M.deadline i) / M.period i + 1) 0 ≡ (t + (M.period i - M.deadline i)) / M.period i
      go true e =
          let l : M.deadline i ≤ t = leb-true _ _ e in
          let m : M.deadline i ≤ M.period i = G.apart i k in
          sym (add-div_right (t - M.deadline i) (pos i k)) ∙ ap (λ (x : ℕ). x / M.period i) (omega arith)
      go false e =
          let l : t < M.deadline i = leb-false _ _ e in
          let m : M.deadline i ≤ M.period i = G.apart i k in
          sym (div-eq_of_lt (omega arith))

  -- job j is counted exactly when it is due by t
  pub jobs_count : (i j t : ℕ) → i < M.rows → (j < jobs_due M i t) ↔ (j * M.period i + M.deadline i ≤ t)
  jobs_count i j t k =
      let m : M.deadline i ≤ M.period i = G.apart i k in
      let w : (suc j ≤ (t + (M.period i - M.deadline i)) / M.period i) ↔ (suc j * M.period i ≤ t + (M.period i - M.deadline i)) = le-div_iff_mul-le (pos i k) in
      rw (jobs_closed i t k) (
        (λ h. omega (arith, w.0 h, suc-mul j (M.period i))),
        (λ h. w.1 (omega (arith, suc-mul j (M.period i)))),
      )

module _ (M : Model) (G : Sound M) (H : ℕ) (F : Frame M H) where
  module _ (i : ℕ) (k : i < M.rows) where
    turns : H ≡ H / M.period i * M.period i
    turns = sym (div-mul_cancel (M.period i) (F.whole i k))

    slot_div : (t : ℕ) → (H + t) / M.period i ≡ H / M.period i + t / M.period i
    slot_div t = ap (λ (x : ℕ). (x + t) / M.period i) turns ∙ mul-add-div_right (pos M G i k) (H / M.period i) t

    slot_mod : (t : ℕ) → (H + t) % M.period i ≡ t % M.period i
    slot_mod t = ap (λ (x : ℕ). (x + t) % M.period i) turns ∙ mul-add-mod_self_right (H / M.period i) (M.period i) t

    slot_at : (j o : ℕ) → (H / M.period i + j) * M.period i + o ≡ H + (j * M.period i + o)
    slot_at j o = ap (λ (x : ℕ). x + o) (add-mul (H / M.period i) j (M.period i) ∙ ap (λ (x : ℕ). x + j * M.period i) (sym turns)) ∙ add_assoc H (j * M.period i) o

    jobs_frame : (r : ℕ) → jobs_due M i (H + r) ≡ H / M.period i + jobs_due M i r
    jobs_frame r =
        rw (jobs_closed M G i (H + r) k, jobs_closed M G i r k)
        (ap (λ (x : ℕ). x / M.period i) (add_assoc H r (M.period i - M.deadline i)) ∙ slot_div (r + (M.period i - M.deadline i)))

    jobs_zero : jobs_due M i 0 ≡ 0
    jobs_zero = jobs_closed M G i 0 k ∙ div-eq_of_lt (omega (arith, G.some i k, G.room i k, G.apart i k))

    jobs_add : (r : ℕ) → jobs_due M i (H + r) ≡ jobs_due M i H + jobs_due M i r
    jobs_add r =
        let a : jobs_due M i H ≡ H / M.period i = ap (jobs_due M i) (sym (add-zero H)) ∙ jobs_frame 0 ∙ ap (λ (x : ℕ). H / M.period i + x) jobs_zero ∙ add-zero (H / M.period i) in
        jobs_frame r ∙ ap (λ (x : ℕ). x + jobs_due M i r) (sym a)

  work_add : (r : ℕ) → work_due M (H + r) ≡ work_due M H + work_due M r
  unfolding work_due
  work_add r =
      sum_eq M.rows (λ i k. ap (λ (x : ℕ). M.weight i * (M.execution i * x)) (jobs_add i k r)
      ∙ ap (λ (x : ℕ). M.weight i * x) (mul-add (M.execution i) (jobs_due M i H) (jobs_due M i r))
      ∙ mul-add (M.weight i) (M.execution i * jobs_due M i H) (M.execution i * jobs_due M i r))
      ∙ sum_add M.rows (λ i. M.weight i * (M.execution i * jobs_due M i H)) (λ i. M.weight i * (M.execution i * jobs_due M i r))

  pub work_frames : (q r : ℕ) → work_due M (q * H + r) ≡ q * work_due M H + work_due M r
  work_frames = frames (work_due M) H work_add

  abbrev Again : Map → Type 0
  Again A = (t i : ℕ) → i < M.rows → A (H + t) i ≡ A t i

  module _ (A : Map) (a : Again A) where
    size_again : (t : ℕ) → size M A (H + t) ≡ size M A t
    unfolding size
    size_again t = sum_eq M.rows (λ i k. ap (λ (b : Bool). M.weight i * bit b) (a t i k))

    pin_again : (i t m : ℕ) → i < M.rows → pin M A i (H + t) m ≡ pin M A i t m
    unfolding pin
    pin_again i t m k = rw (a t i k, size_again t, F.again t)

    pins_again : (i j o : ℕ) → i < M.rows → pins M A i (H / M.period i + j) o ≡ pins M A i j o
    unfolding pins
    pins_again i j zero k = refl
    pins_again i j (suc o) k = rw (slot_at i k j o, pins_again i j o k, pin_again i (j * M.period i + o) (pins M A i j o) k)

    pinned_again : Again (pinned M A)
    unfolding pinned
    pinned_again t i k =
        rw (slot_div i k t, slot_mod i k t, pins_again i (t / M.period i) (t % M.period i) k)
        (pin_again i t (pins M A i (t / M.period i) (t % M.period i)) k)

    full_again : (i j : ℕ) → i < M.rows → full M A i (H / M.period i + j) ≡ full M A i j
    unfolding full
    full_again i j k = rw (pins_again i j (M.deadline i) k)

    supply_add : (r : ℕ) → supply M A (H + r) ≡ supply M A H + supply M A r
    unfolding supply usable
    supply_add r =
        sum_cut H r (λ s. min (M.capacity s) (size M A s))
        ∙ ap (λ (x : ℕ). sum H (λ s. min (M.capacity s) (size M A s)) + x) (sum_eq r (λ o l. ap₂ min (F.again o) (size_again o)))

  window_again : Again (window M)
  unfolding window
  window_again t i k = rw (slot_mod i k t)

  next_again : (A : Map) → Again A → Again (next M A)
  unfolding next
  next_again A a t i k = rw (slot_div i k t, window_again t i k, pinned_again A a t i k, full_again A a i (t / M.period i) k)

  pub available_again : (y : ℕ) → Again (available M y)
  unfolding available
  available_again zero = window_again
  available_again (suc zero) = window_again
  available_again (suc (suc y)) = next_again (available M (suc y)) (available_again (suc y))

  pub supply_frames : (y q r : ℕ) → supply M (available M y) (q * H + r) ≡ q * supply M (available M y) H + supply M (available M y) r
  supply_frames y = frames (supply M (available M y)) H (supply_add (available M y) (available_again y))
