-- An entry put into a list: "replaced in its place, or added as the last entry".
use mathlib.Core.Path.{◌≡◌, refl, ap}
use mathlib.Core.Bool.{Bool, true, false, cond}
use Prim.Native.Nat.{ℕ, zero, suc, ◌≤◌, ◌<◌}
use native.Mathlib.Omega.{arith}
use mathlib.Core.List.{List, [], ◌∷◌, ◌++◌}
use lib.ListN.{length, get_or}
use lib.Dec.{eqb}
use borrow.Author.Tests.{eq-eqb, ne_eqb}
use Rattle.file_contents.specs.File.{Entry}
use Rattle.file_new.specs.New.{put_entry}
use Rattle.file_laws.specs.Valid.{Each}

-- an entry of another number than e's
abbrev pub Other : Entry → Entry → Type 0
Other e d = d.number ≡ e.number → ⊥

pub put_place : (xs : List Entry) (d : Entry) (ys : List Entry) (e : Entry) → Each (Other e) xs → d.number ≡ e.number → put_entry (xs ++ (d ∷ ys)) e ≡ xs ++ (e ∷ ys)
unfolding put_entry
put_place [] d ys e f h = rw (eq-eqb _ _ h)
put_place (x ∷ xs) d ys e f h = rw (ne_eqb _ _ f.0) (ap (λ (l : List Entry). x ∷ l) (put_place xs d ys e f.1 h))

pub put_last : (es : List Entry) (e : Entry) → Each (Other e) es → put_entry es e ≡ es ++ (e ∷ [])
unfolding put_entry
put_last [] e f = refl
put_last (d ∷ ds) e f = rw (ne_eqb _ _ f.0) (ap (λ (l : List Entry). d ∷ l) (put_last ds e f.1))

pub put_other : (es : List Entry) (e z : Entry) (i : ℕ) → i < length es → Other e (get_or es i z) → get_or (put_entry es e) i z ≡ get_or es i z
unfolding put_entry
put_other [] e z i l n = absurd (omega arith)
put_other (d ∷ ds) e z zero l n = rw (ne_eqb _ _ n)
put_other (d ∷ ds) e z (suc i) l n = go (eqb d.number e.number) (put_other ds e z i (omega arith) n)
  where
    go : (b : Bool) → get_or (put_entry ds e) i z ≡ get_or ds i z → get_or (cond b (e ∷ ds) (d ∷ put_entry ds e)) (suc i) z ≡ get_or ds i z
    go true next = refl
    go false next = next

pub put_length : (es : List Entry) (e : Entry) → length es ≤ length (put_entry es e)
unfolding put_entry
put_length [] e = omega arith
put_length (d ∷ ds) e = go (eqb d.number e.number) (put_length ds e)
  where
    go : (b : Bool) → length ds ≤ length (put_entry ds e) → length (d ∷ ds) ≤ length (cond b (e ∷ ds) (d ∷ put_entry ds e))
    go true next = omega arith
    go false next = omega arith
