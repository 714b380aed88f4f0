-- What a loop leaves in a list, as an equation of lists; and what such a list holds.
use mathlib.Core.Path.{◌≡◌, refl, ap, ap₂, ◌∙◌}
use mathlib.Core.List.{List, [], ◌∷◌, ◌++◌}
use Prim.Native.Nat.{ℕ, zero, suc, ◌+◌, ◌-◌, ◌≤◌, ◌<◌}
use native.Mathlib.Nat.{le_of_suc-le-suc, not-suc-le-zero}
use native.Mathlib.Omega.{arith}
use lib.ListN.{length, get_or, drop, get_or-append}
use lib.Seq.{ext_get_or, get_or-append-add, get_or-drop}
use Rattle.basics.specs.Over.{Over}
use Rattle.basics.specs.Filled.{tab, filled}

pub tab_length : (f : ℕ → ℕ) (h : ℕ) → length (tab f h) ≡ h
unfolding tab
tab_length f zero = refl
tab_length f (suc h) = ap suc (tab_length (λ k. f (suc k)) h)

-- rules that agree below h give the same list
pub tab_ext : (h : ℕ) {f g : ℕ → ℕ} → ((s : ℕ) → s < h → f s ≡ g s) → tab f h ≡ tab g h
unfolding tab
tab_ext zero e = refl
tab_ext (suc h) e = ap₂ (λ (u : ℕ) (v : List ℕ). u ∷ v) (e 0 (omega arith)) (tab_ext h (λ s l. e (suc s) (omega arith)))

pub filled_ext : (h : ℕ) (l : List ℕ) {f g : ℕ → ℕ} → ((s : ℕ) → s < h → f s ≡ g s) → filled f h l ≡ filled g h l
unfolding filled
filled_ext h l e = ap (λ (x : List ℕ). x ++ drop h l) (tab_ext h e)

-- the first h places are the rule's, and the rest is as it was
pub over_filled : (f : ℕ → ℕ) (h : ℕ) (a b : List ℕ) → Over f 0 h a b → h ≤ length a → b ≡ filled f h a
unfolding tab filled
over_filled f zero a b r l = ext_get_or 0 b a r.len (λ k g. r.high k (omega arith))
over_filled f (suc h) [] b r l = absurd (not-suc-le-zero l)
over_filled f (suc h) (x ∷ a) [] r l = absurd (let e : 0 ≡ suc (length a) = r.len in omega arith)
over_filled f (suc h) (x ∷ a) (y ∷ b) r l =
    ap₂ (λ (u : ℕ) (v : List ℕ). u ∷ v) (r.mid 0 (omega arith) (omega arith))
    (over_filled (λ k. f (suc k)) h a b
    (record {
      len = let e : suc (length b) ≡ suc (length a) = r.len in omega arith;
      low = λ k g. r.low (suc k) (omega arith);
      mid = λ k g m. r.mid (suc k) (omega arith) (omega arith);
      high = λ k g. r.high (suc k) (omega arith);
    })
    (le_of_suc-le-suc l))

-- and a filled list holds the rule
pub tab_at : (f : ℕ → ℕ) (h s : ℕ) → s < h → get_or (tab f h) s 0 ≡ f s
unfolding tab
tab_at f zero s k = absurd (not-suc-le-zero k)
tab_at f (suc h) zero k = refl
tab_at f (suc h) (suc s) k = tab_at (λ k. f (suc k)) h s (le_of_suc-le-suc k)

pub filled_at : (f : ℕ → ℕ) (h : ℕ) (l : List ℕ) (s : ℕ) → s < h → get_or (filled f h l) s 0 ≡ f s
unfolding filled
filled_at f h l s k = get_or-append (tab f h) (drop h l) 0 s (omega (arith, tab_length f h)) ∙ tab_at f h s k

-- and past it what it had
pub filled_past : (f : ℕ → ℕ) (h : ℕ) (l : List ℕ) (s : ℕ) → h ≤ s → get_or (filled f h l) s 0 ≡ get_or l s 0
unfolding filled
filled_past f h l s k =
    let n = tab_length f h in
    let e : s ≡ length (tab f h) + (s - h) = omega arith in
    let d : h + (s - h) ≡ s = omega arith in
    ap (λ (i : ℕ). get_or (tab f h ++ drop h l) i 0) e
    ∙ get_or-append-add (tab f h) (drop h l) (s - h) 0
    ∙ get_or-drop h l (s - h) 0
    ∙ ap (λ (i : ℕ). get_or l i 0) d
