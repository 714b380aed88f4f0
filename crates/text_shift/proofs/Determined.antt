-- The shift check has one outcome for each file and each lent memory: the length, the output and both lists at exit.
use mathlib.Core.Path.{◌≡◌, ap}
use mathlib.Core.List.{List}
use Prim.Native.Nat.{ℕ}
use Rattle.basics.proofs.Determined.{by_equation}
use Rattle.text_shift.specs.Lists.{Lists}
use Rattle.text_shift.specs.Shift.{Shifted}

pub determined : (file map pins out map₁ pins₁ out₁ map₂ pins₂ out₂ : List ℕ) (r q : ℕ)
    → Shifted file map pins out map₁ pins₁ out₁ r → Shifted file map pins out map₂ pins₂ out₂ q
    → (r ≡ q) × (out₁ ≡ out₂) × (map₁ ≡ map₂) × (pins₁ ≡ pins₂)
determined file map pins out map₁ pins₁ out₁ map₂ pins₂ out₂ r q f g =
    let e = by_equation f.lists_are g.lists_are in
    (by_equation f.answer g.answer, by_equation f.output g.output, ap (λ (l : Lists). l.map) e, ap (λ (l : Lists). l.pins) e)
