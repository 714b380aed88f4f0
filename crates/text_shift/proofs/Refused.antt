-- "Every refusal leaves all lent memory untouched": a refused file leaves both lists as they were.
use mathlib.Core.Path.{◌≡◌, ap, ◌∙◌}
use mathlib.Core.List.{List}
use Prim.Native.Nat.{ℕ}
use borrow.Author.Tests.{ne_eqb}
use Rattle.file_check.specs.Check.{file_refusal}
use Rattle.text_shift.specs.Lists.{Lists, lists_after}
use Rattle.text_shift.specs.Shift.{lists, Shifted}

pub text_refused_unchanged : (file map pins out map' pins' out' : List ℕ) (r : ℕ) → Shifted file map pins out map' pins' out' r → ((file_refusal file).no ≡ 0 → ⊥)
    → (map' ≡ map) × (pins' ≡ pins)
unfolding lists_after
text_refused_unchanged file map pins out map' pins' out' r p refused =
    let e : lists map' pins' ≡ lists map pins = p.lists_are ∙ rw (ne_eqb _ _ refused) in
    (ap (λ (l : Lists). l.map) e, ap (λ (l : Lists). l.pins) e)
