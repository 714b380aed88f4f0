-- "Every refusal leaves all lent memory untouched", and "All other numbers of a refused answer are 0".
use mathlib.Core.Path.{◌≡◌, ap, ◌∙◌}
use Prim.Native.Nat.{ℕ}
use mathlib.Core.List.{List}
use lib.ListN.{length}
use borrow.Author.Tests.{ne_eqb}
use Rattle.table.specs.declared.Table.{Table}
use Rattle.file_new.specs.New.{put_refusal}
use Rattle.file_put.specs.Put.{Written, put_of, put_out, Puts}

pub put_refused_unchanged : (s : List ℕ) (number : ℕ) (t : Table) (before after : List ℕ) (r : Written) → Puts s number t before after r → (r.refusal.no ≡ 0 → ⊥)
    → (after ≡ before) × (r.length ≡ 0)
unfolding put_of put_out
put_refused_unchanged s number t before after r p refused =
    let no = ne_eqb (put_refusal s number t (length before)).no 0 (λ e. refused (ap (λ (w : Written). w.refusal.no) p.answer ∙ e)) in
    (p.output ∙ rw no, ap (λ (w : Written). w.length) p.answer ∙ rw no)
