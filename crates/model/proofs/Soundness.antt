-- Where a valid schedule exists, the work due is at most the usable supply; so infeasible means that none does.
use mathlib.Core.Path.{◌≡◌, refl, sym, ◌∙◌}
use mathlib.Core.Bool.{Bool, true, false, cond}
use Prim.Native.Nat.{ℕ, zero, suc, ◌+◌, ◌*◌, ◌-◌, ◌/◌, ◌≤◌, ◌<◌, zero-le}
use native.Mathlib.Nat.{le_refl, le_trans, le_of_eq, le_step, lt_of_lt_of_le, lt_of_le_of_lt, not-le_of_lt, add-le-add, suc-mul, zero-mul, mul-zero, mul_comm, mul-le-mul_left, mul-le-mul_right, le-min, div-mul-le_self}
use native.Mathlib.Omega.{arith}
use native.Mathlib.Numerals.{add-one}
use lib.Dec.{leb}
use borrow.Author.Tests.{leb-true}
use Rattle.basics.specs.Sum.{sum, bit}
use Rattle.model.specs.Model.{Model, Sound, Map}
use Rattle.model.specs.Pins.{size}
use Rattle.model.specs.Depths.{available}
use Rattle.model.specs.Supply.{supply, usable}
use Rattle.model.specs.Work.{jobs_due, work_due}
use Rattle.model.specs.Schedule.{Valid, Within}
use Rattle.basics.proofs.Sums.{sum_le, sum_eq, sum_cut, sum_longer, sum_mul, sum_swap}
use Rattle.model.proofs.Pins.{size_le}
use Rattle.model.proofs.Better.{demand3}

module _ (M : Model) (G : Sound M) (H : ℕ) (S : Map) (ok : Valid M H S) (i : ℕ) (k : i < M.rows) where
  -- the first q jobs' slots
  whole : (q : ℕ) → q * M.period i < H → q * M.execution i ≤ sum (q * M.period i) (λ s. bit (S s i))
  whole zero h = rw (zero-mul (M.execution i)) zero-le
  whole (suc q) h =
      let l : q * M.period i < H = lt_of_le_of_lt (mul-le-mul_right (M.period i) (le_step (le_refl q))) h in
      rw (suc-mul q (M.execution i), suc-mul q (M.period i), sum_cut)
      (add-le-add (whole q l) (le_trans (le_of_eq (sym (ok.runs i q k l))) (sum_longer _ (G.apart i k))))

  -- and job q's window
  pub due : (q t : ℕ) → q * M.period i + M.deadline i ≤ t → t ≤ H → (q + 1) * M.execution i ≤ sum t (λ s. bit (S s i))
  due q t h g =
      let l : q * M.period i < H = omega (arith, G.some i k, G.room i k) in
      le_trans (rw (add-one q, suc-mul q (M.execution i), sum_cut) (add-le-add (whole q l) (le_of_eq (sym (ok.runs i q k l)))))
      (sum_longer _ h)

  pub done : (t : ℕ) → t ≤ H → M.execution i * jobs_due M i t ≤ sum t (λ s. bit (S s i))
  unfolding jobs_due
  done t g = go (leb (M.deadline i) t) refl
    where
      go : (b : Bool) → leb (M.deadline i) t ≡ b → M.execution i * cond b ((t - M.deadline i) / M.period i + 1) 0 ≤ sum t (λ s. bit (S s i))
      go true e =
          let l : M.deadline i ≤ t = leb-true _ _ e in
          let h : (t - M.deadline i) / M.period i * M.period i ≤ t - M.deadline i = div-mul-le_self (t - M.deadline i) (M.period i) in
          rw (mul_comm (M.execution i) ((t - M.deadline i) / M.period i + 1)) (due ((t - M.deadline i) / M.period i) t (omega arith) g)
      go false e = rw (mul-zero (M.execution i)) zero-le

-- what S runs in the first t slots, row by row
pub by_rows : (M : Model) (S : Map) (t : ℕ) → sum t (size M S) ≡ sum M.rows (λ i. M.weight i * sum t (λ s. bit (S s i)))
unfolding size
by_rows M S t =
    sum_swap t M.rows (λ s i. M.weight i * bit (S s i))
    ∙ sum_eq M.rows (λ i l. sum_mul t (M.weight i) (λ s. bit (S s i)))

pub run : (M : Model) → Sound M → (H : ℕ) (S : Map) → Valid M H S → (t : ℕ) → t ≤ H → work_due M t ≤ sum t (size M S)
unfolding work_due
run M G H S ok t g =
    le_trans (sum_le M.rows (λ i k. mul-le-mul_left (M.weight i) (done M G H S ok i k t g))) (le_of_eq (sym (by_rows M S t)))

pub held : (M : Model) (H : ℕ) (S A : Map) → Valid M H S → Within M H S A → (t : ℕ) → t ≤ H → sum t (size M S) ≤ supply M A t
unfolding supply usable Within
held M H S A ok w t g =
    sum_le t (λ s l. le-min (ok.fits s (lt_of_lt_of_le l g)) (size_le M S A s (λ i k e. w s i (lt_of_lt_of_le l g) k e)))

-- where a valid schedule exists the work due is at most the supply, at each depth
pub soundness : (M : Model) → Sound M → (H : ℕ) (S : Map) → Valid M H S → (y t : ℕ) → t ≤ H → work_due M t ≤ supply M (available M y) t
soundness M G H S ok y t g =
    let p = demand3 M G H S ok y in
    le_trans (run M G H p.0 p.1 t g) (held M H p.0 (available M y) p.1 p.2 t g)

-- infeasible means no valid schedule: more work due than supply, at some length and depth
pub infeasible : (M : Model) → Sound M → (H y t : ℕ) → t ≤ H → supply M (available M y) t < work_due M t → (S : Map) → Valid M H S → ⊥
infeasible M G H y t g h S ok = not-le_of_lt h (soundness M G H S ok y t g)
