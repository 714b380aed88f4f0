-- Rows past the row count never matter: models that agree on the rows below it have the same maps, pins, supply, work and least failing length there.
use mathlib.Core.Path.{◌≡◌, refl, ap, ap₂, ◌∙◌}
use mathlib.Core.Bool.{Bool, not, cond, ◌&&◌, ◌||◌}
use Prim.Native.Nat.{ℕ, zero, suc, ◌+◌, ◌*◌, ◌-◌, ◌/◌, ◌%◌, ◌<◌, min}
use lib.Dec.{leb, ltb, eqb}
use Rattle.basics.specs.Sum.{sum, bit}
use Rattle.basics.proofs.Sums.{sum_eq}
use Rattle.model.specs.Model.{Model, Map}
use Rattle.model.specs.Windows.{window}
use Rattle.model.specs.Pins.{size, pin, pins, pinned}
use Rattle.model.specs.Depths.{full, next, available, pinned_at}
use Rattle.model.specs.Supply.{usable, supply}
use Rattle.model.specs.Work.{jobs_due, work_due}
use Rattle.model.specs.Failing.{fails, least_failing}

pub record SameRows (M N : Model) : Type 0 where
  pub rows : M.rows ≡ N.rows
  pub period : (i : ℕ) → i < M.rows → M.period i ≡ N.period i
  pub execution : (i : ℕ) → i < M.rows → M.execution i ≡ N.execution i
  pub deadline : (i : ℕ) → i < M.rows → M.deadline i ≡ N.deadline i
  pub weight : (i : ℕ) → i < M.rows → M.weight i ≡ N.weight i
  pub capacity : (t : ℕ) → M.capacity t ≡ N.capacity t

-- maps that agree on the rows below n
abbrev pub Agree : ℕ → Map → Map → Type 0
Agree n A B = (t i : ℕ) → i < n → A t i ≡ B t i

module _ (M N : Model) (q : SameRows M N) where
  rows_sum : (f g : ℕ → ℕ) → ((i : ℕ) → i < M.rows → f i ≡ g i) → sum M.rows f ≡ sum N.rows g
  rows_sum f g e = sum_eq M.rows e ∙ ap (λ (n : ℕ). sum n g) q.rows

  window_alike : Agree M.rows (window M) (window N)
  unfolding window
  window_alike t i k = ap₂ (λ (T D : ℕ). ltb (t % T) D) (q.period i k) (q.deadline i k)

  module _ (A B : Map) (a : Agree M.rows A B) where
    size_alike : (t : ℕ) → size M A t ≡ size N B t
    unfolding size
    size_alike t = rows_sum _ _ (λ i k. ap₂ (λ (w : ℕ) (b : Bool). w * bit b) (q.weight i k) (a t i k))

    pin_alike : (i t n : ℕ) → i < M.rows → pin M A i t n ≡ pin N B i t n
    unfolding pin
    pin_alike i t n k =
        ap₂ (λ (x y : Bool). x && y) (a t i k)
        (ap₂ (λ (x y : Bool). x && y) (ap₂ leb (size_alike t) (q.capacity t)) (ap (ltb n) (q.execution i k)))

    pins_alike : (i j o : ℕ) → i < M.rows → pins M A i j o ≡ pins N B i j o
    unfolding pins
    pins_alike i j zero k = refl
    pins_alike i j (suc o) k =
        ap (λ (n : ℕ). n + bit (pin M A i (j * M.period i + o) n)) (pins_alike i j o k)
        ∙ ap (λ (b : Bool). pins N B i j o + bit b)
        (ap (λ (T : ℕ). pin M A i (j * T + o) (pins N B i j o)) (q.period i k) ∙ pin_alike i _ _ k)

    pub pinned_alike : Agree M.rows (pinned M A) (pinned N B)
    unfolding pinned
    pinned_alike t i k =
        ap (λ (n : ℕ). pin M A i t n)
        (ap (λ (T : ℕ). pins M A i (t / T) (t % T)) (q.period i k) ∙ pins_alike i _ _ k)
        ∙ pin_alike i t _ k

    full_alike : (i j : ℕ) → i < M.rows → full M A i j ≡ full N B i j
    unfolding full
    full_alike i j k = ap₂ leb (q.execution i k) (ap (pins M A i j) (q.deadline i k) ∙ pins_alike i j _ k)

    next_alike : Agree M.rows (next M A) (next N B)
    unfolding next
    next_alike t i k =
        ap₂ (λ (x y : Bool). x && y) (window_alike t i k)
        (ap₂ (λ (x y : Bool). x || not y) (pinned_alike t i k) (ap (λ (T : ℕ). full M A i (t / T)) (q.period i k) ∙ full_alike i _ k))

    pub supply_alike : (t : ℕ) → supply M A t ≡ supply N B t
    unfolding supply usable
    supply_alike t = sum_eq t (λ s l. ap₂ min (q.capacity s) (size_alike s))

  pub available_alike : (y : ℕ) → Agree M.rows (available M y) (available N y)
  unfolding available
  available_alike zero = window_alike
  available_alike (suc zero) = window_alike
  available_alike (suc (suc y)) = next_alike (available M (suc y)) (available N (suc y)) (available_alike (suc y))

  pub pinned_at_alike : (y : ℕ) → Agree M.rows (pinned_at M y) (pinned_at N y)
  unfolding pinned_at
  pinned_at_alike zero = λ t i k. refl
  pinned_at_alike (suc y) = pinned_alike (available M (suc y)) (available N (suc y)) (available_alike (suc y))

  jobs_alike : (i t : ℕ) → i < M.rows → jobs_due M i t ≡ jobs_due N i t
  unfolding jobs_due
  jobs_alike i t k = ap₂ (λ (T D : ℕ). cond (leb D t) ((t - D) / T + 1) 0) (q.period i k) (q.deadline i k)

  pub work_alike : (t : ℕ) → work_due M t ≡ work_due N t
  unfolding work_due
  work_alike t =
      rows_sum _ _ (λ i k. ap₂ ◌*◌ (q.weight i k) (ap₂ ◌*◌ (q.execution i k) (jobs_alike i t k)))

  pub least_alike : (y H : ℕ) → least_failing M (available M y) H ≡ least_failing N (available N y) H
  unfolding least_failing fails
  least_alike y zero = refl
  least_alike y (suc H) =
      ap₂ (λ (t : ℕ) (b : Bool). cond (eqb t 0) (cond b (suc H) 0) t) (least_alike y H)
      (ap₂ ltb (supply_alike (available M y) (available N y) (available_alike y) (suc H)) (work_alike (suc H)))
