-- Valid entries stay valid with a valid entry put into them.
use mathlib.Core.Path.{◌≡◌, refl, subst}
use mathlib.Core.Bool.{Bool, true, false, cond}
use Prim.Native.Nat.{ℕ, ◌≤◌}
use native.Mathlib.Omega.{arith}
use mathlib.Core.List.{List, [], ◌∷◌}
use lib.ListN.{length}
use lib.Dec.{eqb}
use borrow.Author.Tests.{eqb-true, eqb-false}
use Rattle.file_entries.specs.Limits.{most_entries, most_bytes}
use Rattle.file_contents.specs.File.{Entry, encode}
use Rattle.file_new.specs.New.{put_entry}
use Rattle.file_laws.specs.Valid.{ValidEntry, Each, Different, ValidEntries}

put_some : (es : List Entry) (e : Entry) → 1 ≤ length (put_entry es e)
unfolding put_entry
put_some [] e = omega arith
put_some (d ∷ ds) e = go (eqb d.number e.number)
  where
    go : (b : Bool) → 1 ≤ length (cond b (e ∷ ds) (d ∷ put_entry ds e))
    go true = omega arith
    go false = omega arith

put_each : (P : Entry → Type 0) (es : List Entry) (e : Entry) → Each P es → P e → Each P (put_entry es e)
unfolding put_entry
put_each P [] e f p = (p, tt)
put_each P (d ∷ ds) e f p = go (eqb d.number e.number) (put_each P ds e f.1 p)
  where
    go : (b : Bool) → Each P (put_entry ds e) → Each P (cond b (e ∷ ds) (d ∷ put_entry ds e))
    go true next = (p, f.1)
    go false next = (f.0, next)

put_different : (es : List Entry) (e : Entry) → Different es → Different (put_entry es e)
unfolding put_entry
put_different [] e f = (tt, tt)
put_different (d ∷ ds) e f = go (eqb d.number e.number) refl (put_different ds e f.1)
  where
    go : (b : Bool) → eqb d.number e.number ≡ b → Different (put_entry ds e) → Different (cond b (e ∷ ds) (d ∷ put_entry ds e))
    go true q next = (subst (λ (n : ℕ). Each (λ x. n ≡ x.number → ⊥) ds) (eqb-true _ _ q) f.0, f.1)
    go false q next = (put_each (λ x. d.number ≡ x.number → ⊥) ds e f.0 (eqb-false _ _ q), next)

pub put_valid : (es : List Entry) (e : Entry) → ValidEntries es → ValidEntry e → length (put_entry es e) ≤ most_entries → length (encode (put_entry es e)) ≤ most_bytes
    → ValidEntries (put_entry es e)
put_valid es e v h few short = record {
  some = put_some es e;
  few = few;
  each = put_each ValidEntry es e v.each h;
  different = put_different es e v.different;
  short = short;
}
