-- "Over t slots the two sums come to m times t": usable and unusable supply come to the capacities' sum.
use mathlib.Core.Path.{◌≡◌, sym, ◌∙◌}
use Prim.Native.Nat.{ℕ, ◌+◌, ◌*◌}
use native.Mathlib.Nat.{min-le_left}
use native.Mathlib.Omega.{arith}
use Rattle.basics.specs.Sum.{sum}
use Rattle.model.specs.Model.{Model, Map}
use Rattle.model.specs.Supply.{usable, unusable, supply}
use Rattle.model.specs.Pins.{size}
use Rattle.basics.proofs.Sums.{sum_eq, sum_add, sum_same}

slot : (M : Model) (A : Map) (t : ℕ) → usable M A t + unusable M A t ≡ M.capacity t
unfolding usable unusable
slot M A t = omega (arith, min-le_left (M.capacity t) (size M A t))

pub both_parts : (M : Model) (A : Map) (t : ℕ) → supply M A t + sum t (unusable M A) ≡ sum t M.capacity
unfolding supply
both_parts M A t = sym (sum_add t (usable M A) (unusable M A)) ∙ sum_eq t (λ s l. slot M A s)

-- where all m processors serve every slot
pub both_parts_m : (M : Model) (A : Map) (m t : ℕ) → ((s : ℕ) → M.capacity s ≡ m) → supply M A t + sum t (unusable M A) ≡ m * t
both_parts_m M A m t e = both_parts M A t ∙ sum_eq t (λ s l. e s) ∙ sum_same t m
