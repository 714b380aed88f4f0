-- The contract of the climb determines its outcome: two that meet it have the same square and the same lists.
use mathlib.Core.Path.{◌≡◌}
use mathlib.Core.List.{List}
use Prim.Native.Nat.{ℕ}
use Rattle.basics.proofs.Determined.{by_equation}
use Rattle.table.specs.declared.Table.{Table}
use Rattle.table.specs.Meaning.{model_of}
use Rattle.table_row.specs.Limits.{most_depths}
use Rattle.judge_deepen.proofs.Determined.{deep_determined}
use Rattle.judge_climb.specs.Core.{Climbed}

pub climb_determined : (t : Table) (h : ℕ) {map pins map₁ pins₁ map₂ pins₂ : List ℕ} {r s : List (List ℕ)}
    → Climbed t h map pins map₁ pins₁ r → Climbed t h map pins map₂ pins₂ s → (r ≡ s) × (map₁ ≡ map₂) × (pins₁ ≡ pins₂)
climb_determined t h p q =
    let lists = deep_determined (model_of t) h most_depths p.reached q.reached in
    (by_equation p.square q.square, lists.0, lists.1)
