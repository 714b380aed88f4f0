-- The contract of `first_map` determines the list at exit.
use mathlib.Core.Path.{◌≡◌}
use mathlib.Core.List.{List}
use Prim.Native.Nat.{ℕ}
use Rattle.basics.specs.Over.{Over}
use Rattle.basics.proofs.Overs.{over_once}

pub determined : {f : ℕ → ℕ} {h : ℕ} {map one other : List ℕ} → Over f 0 h map one → Over f 0 h map other → one ≡ other
determined p q = over_once p q
