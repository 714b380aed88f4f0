-- What a range test tells.
use mathlib.Core.Path.{◌≡◌, sym, ◌∙◌}
use mathlib.Core.Bool.{Bool, true, false}
use mathlib.Core.Logic.{⊎_elim}
use Prim.Native.Nat.{ℕ, ◌≤◌}
use native.Mathlib.Omega.{arith}
use lib.Dec.{leb}
use borrow.Author.Tests.{leb-true, le-leb}
use Rattle.basics.specs.Range.{inside}
use Rattle.std.proofs.lemmas.Bool.{cases_Bool}
use Rattle.basics.proofs.Bools.{and_left, and_right, clash}

pub inside_true : (low x high : ℕ) → inside low x high ≡ true → (low ≤ x) × (x ≤ high)
unfolding inside
inside_true low x high e = (leb-true _ _ (and_left (leb low x) (leb x high) e), leb-true _ _ (and_right (leb low x) (leb x high) e))

pub inside_of : (low x high : ℕ) → low ≤ x → x ≤ high → inside low x high ≡ true
unfolding inside
inside_of low x high h g = rw (le-leb low x h, le-leb x high g)

pub inside_not : (low x high : ℕ) → (low ≤ x → x ≤ high → ⊥) → inside low x high ≡ false
inside_not low x high f = ⊎_elim (λ e. absurd (f (inside_true low x high e).0 (inside_true low x high e).1)) (λ e. e) (cases_Bool (inside low x high))

-- what the code knows of a range after its test, where the bounds tested are the code's own, and the number is y in another width
module _ (low x high : ℕ) {from y to : ℕ} {r : Bool} (said : r ≡ inside from y to) (same : y ≡ x) where
  pub range_passed : low ≤ from → to ≤ high → r ≡ true → inside low x high ≡ true
  range_passed h g e =
      let b = inside_true from y to (sym said ∙ e) in
      inside_of low x high (omega (arith, b.0, same)) (omega (arith, b.1, same))

  pub range_failed : from ≤ low → high ≤ to → r ≡ false → inside low x high ≡ false
  range_failed h g e =
      inside_not low x high (λ a b. clash (inside_of from y to (omega (arith, same)) (omega (arith, same))) (sym said ∙ e))
