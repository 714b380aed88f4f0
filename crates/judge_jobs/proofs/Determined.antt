-- The contract of `row_pass` determines both lists and the answer.
use mathlib.Core.Path.{◌≡◌, refl, sym}
use mathlib.Core.Bool.{Bool, true, false}
use mathlib.Core.List.{List}
use Prim.Native.Nat.{ℕ}
use Rattle.basics.proofs.Overs.{over_once}
use Rattle.table_row.specs.declared.Row.{Row}
use Rattle.judge_jobs.specs.Passes.{Noticed, RowDone}

-- a list that changed is told of in one way
noticed_once : {a b : ℕ} {old new : List ℕ} (x y : Bool) → Noticed a b old new x → Noticed a b old new y → x ≡ y
noticed_once true true p q = refl
noticed_once false false p q = refl
noticed_once true false p q = let m = p.moved refl in absurd (m.other ((q.still refl).at m.slot))
noticed_once false true p q = let m = q.moved refl in absurd (m.other ((p.still refl).at m.slot))

pub row_determined : (i : ℕ) (row : Row) {h : ℕ} {pin pin₁ pin₂ map map₁ map₂ : List ℕ} {x y : Bool}
    → RowDone i row h pin pin₁ map map₁ x → RowDone i row h pin pin₂ map map₂ y → (pin₁ ≡ pin₂) × (map₁ ≡ map₂) × (x ≡ y)
row_determined i row {map₁ = map₁} {map₂} {x} {y} p q =
    let maps : map₂ ≡ map₁ = over_once q.maps p.maps in
    (over_once p.pins q.pins, sym maps, noticed_once x y p.noticed (rw maps at q.noticed))
