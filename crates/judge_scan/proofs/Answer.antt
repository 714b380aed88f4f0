-- The two lists of a scan: their sums are the work due and the supply, so what is found in them is the map's line.
use mathlib.Core.Path.{◌≡◌, ◌∙◌}
use mathlib.Core.List.{List}
use Prim.Native.Nat.{ℕ, ◌≤◌, ◌<◌, min}
use native.Mathlib.Nat.{min-le_left, lt_of_lt_of_le}
use native.Mathlib.Omega.{arith}
use lib.Count.{ones}
use lib.ListN.{get_or, replicate, get_or-replicate}
use borrow.Author.Tests.{ne_eqb}
use Rattle.std.specs.Prelude.{Option, Some, None, MatchOption}
use Rattle.model.specs.Work.{work_due}
use Rattle.basics.proofs.Sums.{sum_eq}
use Rattle.basics.specs.Over.{Over}
use Rattle.table.specs.declared.Table.{Table}
use Rattle.table_row.specs.Limits.{most_processors, most_slots}
use Rattle.table.specs.Meaning.{model_of, Accepted}
use Rattle.judge_first.proofs.Sequential.{sequential}
use Rattle.judge_scan.specs.declared.Line.{Line}
use Rattle.judge_scan.specs.Dues.{falling_in, Falls, most_due}
use Rattle.judge_scan.specs.Lines.{Scanned}
use Rattle.judge_scan.specs.Totals.{total, Low, FailsAt, FailsNowhere}
use Rattle.judge_scan.proofs.Rows.{rows_low, work_total}
use Rattle.judge_scan.proofs.Slots.{held, line_here, line_none}

-- the list before any work is added
abbrev pub no_dues : List ℕ
no_dues = replicate most_slots 0

pub zeros : (h : ℕ) → h ≤ most_slots → (s : ℕ) → s < h → get_or no_dues s 0 ≡ 0
zeros h l s b = get_or-replicate most_slots s 0 0 (lt_of_lt_of_le b l)

module _ (t : Table) {h : ℕ} (g : Accepted t h) {dues : List ℕ} (q : Falls (falling_in t t.count) h no_dues dues) where
  due_in : (s : ℕ) → s < h → get_or dues s 0 ≡ falling_in t t.count s
  due_in s b = omega (arith, q.mid s (omega arith) b, zeros h g.frame_high s b)

  pub dues_low : Low most_due h dues
  dues_low = record { at = λ s b. omega (arith, due_in s b, rows_low t h g t.count s (omega arith), g.count_high) }

  pub work_is : (k : ℕ) → k ≤ h → total dues k ≡ work_due (model_of t) k
  work_is = work_total t h g dues due_in

module _ (m : ℕ) {h : ℕ} (map : List ℕ) {old usables : List ℕ} (q : Over (λ s. min m (ones (get_or map s 0))) 0 h old usables) where
  pub usables_low : m ≤ most_processors → Low most_processors h usables
  usables_low l = record { at = λ s b. omega (arith, q.mid s (omega arith) b, min-le_left m (ones (get_or map s 0))) }

  pub supply_is : (k : ℕ) → k ≤ h → total usables k ≡ held m map k
  unfolding held
  supply_is k b = sum_eq k (λ s a. q.mid s (omega arith) (omega arith))

module _ (t : Table) {h : ℕ} {map dues usables old : List ℕ} (g : Accepted t h)
    (q : Falls (falling_in t t.count) h no_dues dues) (u : Over (λ s. min t.processors (ones (get_or map s 0))) 0 h old usables) where
  pub answer : {r : Option Line} → MatchOption r (FailsNowhere dues usables h) (FailsAt dues usables h) → Scanned t h map r
  answer {r = None} p A H =
      let e = line_none (sequential t) h map A H (λ s x y. omega (arith, work_is t g q s y, supply_is t.processors map u s y, p.all s y)) in
      record { numbers = e; some = rw (← e) }
  answer {r = Some l} f A H =
      let work = work_is t g q in
      let supply = supply_is t.processors map u in
      let e =
      line_here (sequential t) h map A H l.t f.from f.to
      (λ s x y. omega (arith, work s (omega (arith, f.to)), supply s (omega (arith, f.to)), f.before s (omega (arith, f.from))))
      (omega (arith, work l.t f.to, supply l.t f.to, f.works, f.supplies, f.here))
      (f.works ∙ work l.t f.to) (f.supplies ∙ supply l.t f.to) in
      record { numbers = e; some = rw (← e, ne_eqb l.t 0 (λ (z : l.t ≡ 0). omega (arith, f.from))) }
