-- A row's windows end once in each period: what a walk from end to end leaves in a list.
use mathlib.Core.Path.{◌≡◌, sym, ap, ◌∙◌}
use mathlib.Core.List.{List}
use mathlib.Core.Logic.{⊎_elim}
use Prim.Native.Nat.{ℕ, ◌+◌, ◌-◌, ◌/◌, ◌%◌, ◌≤◌, ◌<◌}
use native.Mathlib.Nat.{suc-mul, mul-le-mul_right, mod-eq_of_lt, div-add-mod'}
use native.Mathlib.Omega.{arith}
use lib.ListN.{length, get_or, set}
use Rattle.std.proofs.lemmas.Bool.Decides.{nat_tests}
use Rattle.std.proofs.lemmas.Bool.{cases_lt}
use Rattle.basics.proofs.Overs.{over_none, over_more, over_on}
use Rattle.table_row.specs.declared.Row.{Row}
use Rattle.judge_scan.specs.Dues.{falling, Falls}

-- two slots at the same place of a period are a period apart
pub spaced : (T a b : ℕ) → a % T ≡ b % T → a < b → a + T ≤ b
spaced T a b e l =
    ⊎_elim
    (λ (h : a / T < b / T). omega (arith, mul-le-mul_right T h, suc-mul (a / T) T, div-add-mod' a T, div-add-mod' b T))
    (λ (h : b / T ≤ a / T). absurd (omega (arith, mul-le-mul_right T h, div-add-mod' a T, div-add-mod' b T)))
    (cases_lt (a / T) (b / T))

pub ends_first : (T D : ℕ) → 0 < D → D ≤ T → (D - 1) % T ≡ D - 1
ends_first T D p q = mod-eq_of_lt (let l : D - 1 < T = omega arith in l)

module _ (row : Row) (p : 0 < row.deadline) (q : row.deadline ≤ row.period) (old : List ℕ) where
  abbrev T : ℕ
  T = row.period

  abbrev C : ℕ
  C = row.execution

  abbrev D : ℕ
  D = row.deadline

  here : (s : ℕ) → s % T ≡ D - 1 → get_or old s 0 + C ≡ get_or old s 0 + falling row s
  here s e = grind (arith, nat_tests)

  elsewhere : (s : ℕ) → (s % T ≡ D - 1 → ⊥) → get_or old s 0 ≡ get_or old s 0 + falling row s
  elsewhere s e = grind (arith, nat_tests)

  pub ends_none : Falls (falling row) (D - 1) old old
  ends_none = over_on (over_none _ 0 old) (omega arith) (λ s a b. elsewhere s (λ (e : s % T ≡ D - 1).
      let z : s % T ≡ s = mod-eq_of_lt (let l : s < T = omega arith in l) in
      omega arith))

  pub ends_more : {s v : ℕ} {new : List ℕ} → Falls (falling row) s old new → s % T ≡ D - 1 → s < length old → v ≡ get_or new s 0 + C
      → Falls (falling row) (s + T) old (set new s v)
  ends_more {s} {v} f e l w =
      over_on
      (over_more f (omega arith) l (w ∙ ap (λ (x : ℕ). x + C) (f.high s (omega arith)) ∙ here s e))
      (omega arith)
      (λ k a b. elsewhere k (λ (g : k % T ≡ D - 1). let z : s + T ≤ k = spaced T s k (e ∙ sym g) (omega arith) in omega arith))

  -- the walk ends past slot h, and has touched none from h on
  pub ends_all : {h s : ℕ} {new : List ℕ} → Falls (falling row) s old new → s % T ≡ D - 1 → h ≤ s → s < h + T → Falls (falling row) h old new
  ends_all {h} {s} f e a b = record {
    len = f.len;
    low = f.low;
    mid = λ k x y. f.mid k x (omega arith);
    high = λ k x.
        ⊎_elim
        (λ (y : k < s). f.mid k (omega arith) y ∙ sym (elsewhere k (λ (g : k % T ≡ D - 1). let z : k + T ≤ s = spaced T k s (g ∙ sym e) y in omega arith)))
        (λ (y : s ≤ k). f.high k y)
        (cases_lt k s);
  }
