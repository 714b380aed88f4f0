-- A contract that is an equation determines its outcome.
use mathlib.Core.Path.{◌≡◌, sym, ◌∙◌}

pub by_equation : {A : Type 0} {r q outcome : A} → r ≡ outcome → q ≡ outcome → r ≡ q
by_equation p q = p ∙ sym q
