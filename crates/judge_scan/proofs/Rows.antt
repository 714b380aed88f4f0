-- What falls due of a table's rows, one row after another, and that it is the work due.
use mathlib.Core.Path.{◌≡◌, refl, sym, ap, ap₂, ◌∙◌}
use mathlib.Core.List.{List}
use Prim.Native.Nat.{ℕ, zero, suc, ◌+◌, ◌*◌, ◌≤◌, ◌<◌}
use native.Mathlib.Nat.{le_trans, le_of_eq}
use native.Mathlib.Numerals.{add-one}
use native.Mathlib.Omega.{arith}
use Rattle.std.proofs.lemmas.Bool.Decides.{nat_tests}
use lib.ListN.{get_or}
use Rattle.basics.specs.Sum.{sum}
use Rattle.model.specs.Work.{work_due}
use Rattle.basics.proofs.Sums.{sum_le, sum_same}
use Rattle.basics.proofs.Overs.{over_none, over_on, over_then, over_ext}
use Rattle.table_row.specs.declared.Row.{Row}
use Rattle.table.specs.declared.Table.{Table}
use Rattle.table_row.specs.Limits.{most_slots}
use Rattle.table.specs.Rows.{row_at}
use Rattle.table.specs.Meaning.{model_of, Accepted}
use Rattle.table.proofs.Accepted.{sound_model}
use Rattle.judge_first.proofs.Sequential.{sequential}
use Rattle.judge_scan.specs.Dues.{falling, falling_in, Falls}
use Rattle.judge_scan.specs.Totals.{total}
use Rattle.judge_scan.proofs.Jobs.{work_none, work_step}
use Rattle.judge_scan.proofs.Running.{total_none, total_more}

module _ (t : Table) where
  falling_none : (s : ℕ) → falling_in t 0 s ≡ 0
  unfolding sum
  falling_none s = refl

  falling_more : (i s : ℕ) → falling_in t (i + 1) s ≡ falling_in t i s + falling (row_at t i) s
  unfolding sum
  falling_more i s = ap (λ (n : ℕ). falling_in t n s) (add-one i)

  pub falls_none : (h : ℕ) (l : List ℕ) → Falls (falling_in t 0) h l l
  falls_none h l = over_on (over_none _ 0 l) (omega arith) (λ s a b. omega (arith, falling_none s))

  pub falls_more : (i : ℕ) {h : ℕ} {old mid new : List ℕ} → Falls (falling_in t i) h old mid → Falls (falling (row_at t i)) h mid new → Falls (falling_in t (i + 1)) h old new
  falls_more i p q = over_ext (over_then p q) (λ s a b. omega (arith, p.mid s a b, falling_more i s))

-- a row adds at most its execution time
falling_low : (row : Row) (s : ℕ) → falling row s ≤ row.execution
falling_low row s = grind (arith, nat_tests)

module _ (t : Table) (h : ℕ) (g : Accepted t h) where
  pub rows_low : (n s : ℕ) → n ≤ t.count → falling_in t n s ≤ most_slots * n
  rows_low n s l =
      le_trans
      (sum_le n (λ i b.
      let j : i < t.count = omega arith in
      omega (arith, falling_low (row_at t i) s, g.room i j, g.apart i j, g.period_high i j)))
      (le_of_eq (sum_same n most_slots))

  -- what has fallen due in the first slots is the work due
  pub work_total : (dues : List ℕ) → ((s : ℕ) → s < h → get_or dues s 0 ≡ falling_in t t.count s) → (k : ℕ) → k ≤ h → total dues k ≡ work_due (model_of t) k
  work_total dues f zero l = total_none dues ∙ sym (work_none (model_of t) (sound_model t h g))
  work_total dues f (suc k) l =
      ap (total dues) (sym (add-one k)) ∙ total_more dues k ∙ ap₂ (λ (x y : ℕ). x + y) (work_total dues f k (omega arith)) (f k (omega arith))
      ∙ sym (work_step (model_of t) (sound_model t h g) (sequential t) k) ∙ ap (work_due (model_of t)) (add-one k)
