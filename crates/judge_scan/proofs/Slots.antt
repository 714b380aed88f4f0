-- The supply of the words of a list, and the line of the map that the list holds.
use mathlib.Core.Path.{◌≡◌, sym, ap, ap₂, ◌∙◌}
use mathlib.Core.List.{List}
use Prim.Native.Nat.{ℕ, ◌-◌, ◌≤◌, ◌<◌, min}
use native.Mathlib.Nat.{lt_of_lt_of_le}
use native.Mathlib.Omega.{arith}
use lib.Count.{ones}
use lib.ListN.{get_or}
use borrow.Author.Tests.{ne_eqb}
use Rattle.basics.specs.Sum.{sum}
use Rattle.model.specs.Model.{Model, Map}
use Rattle.model.specs.Supply.{usable, supply}
use Rattle.model.specs.Work.{work_due}
use Rattle.model.specs.Failing.{least_failing, Least}
use Rattle.basics.proofs.Sums.{sum_eq}
use Rattle.model.proofs.Least.{least_found, least_none}
use Rattle.sets.specs.Word.{words}
use Rattle.basics.specs.Over.{Holds}
use Rattle.judge_first.proofs.Sequential.{Sequential, size_word}
use Rattle.judge_scan.specs.Lines.{no_line, line_of}

-- the supply of the first t words of a list, on m processors
unfoldable pub held : ℕ → List ℕ → ℕ → ℕ
held m l t = sum t (λ s. min m (ones (get_or l s 0)))

-- no length of 1 to k has more work due than the words supply
abbrev pub Fine : Model → ℕ → List ℕ → ℕ → Type 0
Fine M m l k = (s : ℕ) → 1 ≤ s → s ≤ k → work_due M s ≤ held m l s

module _ {M : Model} {m : ℕ} (q : Sequential M m) (h : ℕ) (l : List ℕ) (A : Map) (H : Holds (words M A) h l) where
  supply_held : (t : ℕ) → t ≤ h → held m l t ≡ supply M A t
  unfolding held supply usable
  supply_held t k =
      sum_eq t (λ s j. ap₂ min (sym (q.capacity s)) (ap ones (H.at s (lt_of_lt_of_le j k)) ∙ size_word q A s))

  -- the first length that fails
  pub line_here : (k : ℕ) {w v : ℕ} → 1 ≤ k → k ≤ h → Fine M m l (k - 1) → held m l k < work_due M k → w ≡ work_due M k → v ≡ held m l k
      → record { t = k; work = w; supply = v } ≡ line_of M A h
  unfolding line_of
  line_here k {w} {v} p b f g ew ev =
      let r : Least M A h k = record {
        from = p;
        to = b;
        here = rw (← supply_held k b) g;
        before = λ s a c. rw (← supply_held s (omega arith)) (f s a (omega arith));
      } in
      let e : k ≡ least_failing M A h = least_found M A h k r in
      rw (← e, ne_eqb k 0 (λ (z : k ≡ 0). omega arith), ew, ev, supply_held k b)

  -- no length fails
  pub line_none : Fine M m l h → no_line ≡ line_of M A h
  unfolding line_of
  line_none f = rw (← least_none M A h (λ t a b. rw (← supply_held t b) (f t a b)))
