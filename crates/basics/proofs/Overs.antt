-- How a loop's turns come together into what it leaves.
use mathlib.Core.Path.{◌≡◌, refl, sym, ap, ◌∙◌}
use mathlib.Core.List.{List}
use mathlib.Core.Logic.{⊎_elim}
use Prim.Native.Nat.{ℕ, suc, ◌+◌, ◌≤◌, ◌<◌}
use native.Mathlib.Nat.{le_of_suc-le-suc, eq-or-lt_of_le}
use native.Mathlib.Omega.{arith}
use lib.ListN.{length, get_or, set, length-set}
use lib.Seq.{get_or-set_same, get_or-set_other, set-get_or, ext_get_or}
use Rattle.basics.proofs.Bools.{lt_or_ge}
use Rattle.basics.specs.Over.{Over, Holds, Same}

pub over_none : (f : ℕ → ℕ) (a : ℕ) (l : List ℕ) → Over f a a l l
over_none f a l = record { len = refl; low = λ s h. refl; mid = λ s h g. absurd (omega arith); high = λ s h. refl }

-- a store takes it one place further
pub over_more : {f : ℕ → ℕ} {a b v : ℕ} {old new : List ℕ} → Over f a b old new → a ≤ b → b < length old → v ≡ f b → Over f a (b + 1) old (set new b v)
over_more {f} {a} {b} {v} {old} {new} r k l e = record {
  len = length-set new b v ∙ r.len;
  low = λ s g. get_or-set_other new b s v 0 (λ (z : s ≡ b). omega arith) ∙ r.low s g;
  mid = λ s j g.
      ⊎_elim
      (λ q. ap (λ (k : ℕ). get_or (set new b v) k 0) q ∙ get_or-set_same new b v 0 (omega (arith, r.len)) ∙ e ∙ ap f (sym q))
      (λ q. get_or-set_other new b s v 0 (λ (z : s ≡ b). omega arith) ∙ r.mid s j q)
      (eq-or-lt_of_le (le_of_suc-le-suc (let k : suc s ≤ suc b = omega arith in k)));
  high = λ s g. get_or-set_other new b s v 0 (λ (z : s ≡ b). omega arith) ∙ r.high s (omega arith);
}

-- two ranges that meet: the second's rule may speak of the list between
pub over_join : {f g : ℕ → ℕ} {a b c : ℕ} {x y z : List ℕ} → Over f a b x y → Over g b c y z → a ≤ b → b ≤ c
    → ((s : ℕ) → b ≤ s → s < c → g s ≡ f s) → Over f a c x z
over_join {f} {g} {a} {b} {c} {x} {y} {z} r q l k e = record {
  len = q.len ∙ r.len;
  low = λ s h. q.low s (omega arith) ∙ r.low s h;
  mid = λ s h j. ⊎_elim (λ m. q.low s m ∙ r.mid s h m) (λ m. q.mid s m j ∙ e s m j) (lt_or_ge s b);
  high = λ s h. q.high s h ∙ r.high s (omega arith);
}

-- places that the rule leaves alone
pub over_on : {f : ℕ → ℕ} {a b c : ℕ} {x y : List ℕ} → Over f a b x y → b ≤ c → ((s : ℕ) → b ≤ s → s < c → get_or x s 0 ≡ f s) → Over f a c x y
over_on {f} {a} {b} {c} {x} {y} r k e = record {
  len = r.len;
  low = r.low;
  mid = λ s h j. ⊎_elim (λ m. r.mid s h m) (λ m. r.high s m ∙ e s m j) (lt_or_ge s b);
  high = λ s h. r.high s (omega arith);
}

pub over_ext : {f g : ℕ → ℕ} {a b : ℕ} {x y : List ℕ} → Over f a b x y → ((s : ℕ) → a ≤ s → s < b → f s ≡ g s) → Over g a b x y
over_ext r e = record { len = r.len; low = r.low; mid = λ s h j. r.mid s h j ∙ e s h j; high = r.high }

-- one rule after another in the same range
pub over_then : {f g : ℕ → ℕ} {a b : ℕ} {x y z : List ℕ} → Over f a b x y → Over g a b y z → Over g a b x z
over_then r q = record { len = q.len ∙ r.len; low = λ s h. q.low s h ∙ r.low s h; mid = q.mid; high = λ s h. q.high s h ∙ r.high s h }

pub same_set : {x y : List ℕ} (b v : ℕ) → Same x y → v ≡ get_or y b 0 → Same x (set y b v)
same_set {x} {y} b v r e = record { at = λ s. ap (λ (k : ℕ). get_or (set y b k) s 0) e ∙ ap (λ (l : List ℕ). get_or l s 0) (set-get_or y b 0) ∙ r.at s }

-- what was left is held
pub holds_of : {f : ℕ → ℕ} {h : ℕ} {a b : List ℕ} → Over f 0 h a b → h ≤ length a → Holds f h b
holds_of r g = record { room = omega (arith, r.len); at = λ s l. r.mid s (omega arith) l }

pub over_held : {f : ℕ → ℕ} {h : ℕ} {l : List ℕ} → Holds f h l → Over f 0 h l l
over_held r = record { len = refl; low = λ s h. refl; mid = λ s h j. r.at s j; high = λ s h. refl }

-- what a loop leaves is one list
pub over_once : {f : ℕ → ℕ} {a b : ℕ} {x y z : List ℕ} → Over f a b x y → Over f a b x z → y ≡ z
over_once {f} {a} {b} {x} {y} {z} p q = ext_get_or 0 y z (p.len ∙ sym q.len) (λ s l.
    ⊎_elim
    (λ (h : s < a). p.low s h ∙ sym (q.low s h))
    (λ (h : a ≤ s). ⊎_elim (λ (g : s < b). p.mid s h g ∙ sym (q.mid s h g)) (λ (g : b ≤ s). p.high s g ∙ sym (q.high s g)) (lt_or_ge s b))
    (lt_or_ge s a))
