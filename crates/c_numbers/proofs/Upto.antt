-- How a list comes to hold given numbers, place by place.
use mathlib.Core.Path.{◌≡◌, sym, ap, ◌∙◌}
use mathlib.Core.List.{List}
use mathlib.Core.Logic.{⊎_elim}
use Prim.Native.Nat.{ℕ, suc, ◌+◌, ◌≤◌, ◌<◌}
use native.Mathlib.Nat.{eq-or-lt_of_le, le_of_suc-le-suc}
use native.Mathlib.Omega.{arith}
use lib.ListN.{length, get_or, set, length-set}
use lib.Seq.{get_or-set_same, get_or-set_other, ext_get_or}

-- the first k places of the list l hold the first of the numbers n, of which there are as many as places
pub record Upto (n : List ℕ) (k : ℕ) (l : List ℕ) : Type 0 where
  pub len : length l ≡ length n
  pub at : (s : ℕ) → s < k → get_or l s 0 ≡ get_or n s 0

pub upto_none : (n l : List ℕ) → length l ≡ length n → Upto n 0 l
upto_none n l e = record { len = e; at = λ s h. absurd (omega arith) }

-- a store takes it one place further
pub upto_more : {n l : List ℕ} {k v : ℕ} → Upto n k l → k < length n → v ≡ get_or n k 0 → Upto n (k + 1) (set l k v)
upto_more {n} {l} {k} {v} w h e = record {
  len = length-set l k v ∙ w.len;
  at = λ s g.
      ⊎_elim
      (λ q. ap (λ (j : ℕ). get_or (set l k v) j 0) q ∙ get_or-set_same l k v 0 (omega (arith, w.len)) ∙ e ∙ ap (λ (j : ℕ). get_or n j 0) (sym q))
      (λ q. get_or-set_other l k s v 0 (λ (z : s ≡ k). omega arith) ∙ w.at s q)
      (eq-or-lt_of_le (le_of_suc-le-suc (let j : suc s ≤ suc k = omega arith in j)));
}

-- and three stores three places
pub upto_three : {n l : List ℕ} {k a b c : ℕ} → Upto n k l → k + 3 ≤ length n → a ≡ get_or n k 0 → b ≡ get_or n (k + 1) 0 → c ≡ get_or n (k + 2) 0
    → Upto n (k + 3) (set (set (set l k a) (k + 1) b) (k + 2) c)
upto_three {n} {l} {k} {a} {b} {c} w h p q r =
    let two : k + 1 + 1 ≡ k + 2 = omega arith in
    let three : k + 2 + 1 ≡ k + 3 = omega arith in
    let u : Upto n (k + 2) (set (set l k a) (k + 1) b) = rw (← two) (upto_more (upto_more w (omega arith) p) (omega arith) q) in
    rw (← three) (upto_more u (omega arith) r)

pub upto_all : (n l : List ℕ) (k : ℕ) → length n ≤ k → Upto n k l → l ≡ n
upto_all n l k h w = ext_get_or 0 l n w.len (λ i g. w.at i (omega (arith, w.len)))
