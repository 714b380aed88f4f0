-- What the walk over the lengths knows at length k, and what it answers.
use mathlib.Core.Path.{◌≡◌, refl, ap}
use mathlib.Core.List.{List}
use mathlib.Core.Logic.{⊎_elim}
use Prim.Native.Nat.{ℕ, ◌+◌, ◌*◌, ◌≤◌, ◌<◌}
use native.Mathlib.Nat.{eq-or-lt_of_le}
use native.Mathlib.Numerals.{add-one}
use native.Mathlib.Omega.{arith}
use lib.ListN.{get_or}
use Rattle.basics.specs.Sum.{sum}
use Rattle.table_row.specs.Limits.{most_processors}
use Rattle.judge_scan.specs.Totals.{total, Low, FailsAt, FailsNowhere}

pub total_none : (l : List ℕ) → total l 0 ≡ 0
unfolding sum
total_none l = refl

pub total_more : (l : List ℕ) (k : ℕ) → total l (k + 1) ≡ total l k + get_or l k 0
unfolding sum
total_more l k = ap (total l) (add-one k)

-- no length up to k fails; both sums are those of length k
pub record Running (dues usables : List ℕ) (supply work k : ℕ) : Type 0 where
  pub supplied : supply ≡ total usables k
  pub due : work ≡ total dues k
  pub small : supply ≤ most_processors * k
  pub fine : (s : ℕ) → s ≤ k → total dues s ≤ total usables s

pub running_none : (dues usables : List ℕ) → Running dues usables 0 0 0
running_none d u = record {
  supplied = omega (arith, total_none u);
  due = omega (arith, total_none d);
  small = omega arith;
  fine = λ s l.
      let e : s ≡ 0 = omega arith in
      rw e (omega (arith, total_none d));
}

pub enough : {d u : List ℕ} {v w k : ℕ} → Running d u v w k → w ≤ v
enough {k = k} r = omega (arith, r.supplied, r.due, r.fine k (omega arith))

module _ {d u : List ℕ} {v w k : ℕ} (r : Running d u v w k) where
  supplied_more : v + get_or u k 0 ≡ total u (k + 1)
  supplied_more = omega (arith, r.supplied, total_more u k)

  due_more : w + get_or d k 0 ≡ total d (k + 1)
  due_more = omega (arith, r.due, total_more d k)

  pub running_more : {h : ℕ} → Low most_processors h u → k < h → w + get_or d k 0 ≤ v + get_or u k 0 → Running d u (v + get_or u k 0) (w + get_or d k 0) (k + 1)
  running_more b l e = record {
    supplied = supplied_more;
    due = due_more;
    small = omega (arith, r.small, b.at k l);
    fine = λ s x.
        ⊎_elim
        (λ (y : s ≡ k + 1). rw y (omega (arith, supplied_more, due_more)))
        (λ (y : s < k + 1). r.fine s (omega arith))
        (eq-or-lt_of_le x);
  }

  pub fails_here : {h : ℕ} → k < h → v + get_or u k 0 < w + get_or d k 0
      → FailsAt d u h (record { t = k + 1; work = w + get_or d k 0; supply = v + get_or u k 0 })
  fails_here l f = record {
    from = omega arith;
    to = omega arith;
    works = due_more;
    supplies = supplied_more;
    here = f;
    before = λ s x. r.fine s (omega arith);
  }

  pub passes_all : {h : ℕ} → h ≤ k → FailsNowhere d u h
  passes_all l = record { all = λ s x. r.fine s (omega arith) }
