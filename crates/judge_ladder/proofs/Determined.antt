-- The ladder's contract determines its outcome: two that meet it have the same square and the same lists.
use mathlib.Core.Path.{◌≡◌, sym, ap, ◌∙◌}
use mathlib.Core.List.{List}
use Prim.Native.Nat.{ℕ}
use Rattle.std.specs.Prelude.{Result}
use Rattle.table.specs.declared.Table.{Table}
use Rattle.refusal.specs.declared.Refusal.{Refusal}
use Rattle.refusal.proofs.Told.{told_in_once}
use Rattle.judge_scan.specs.declared.Line.{Line}
use Rattle.judge_ladder.specs.declared.Square.{Square}
use Rattle.judge_ladder.specs.Ladder.{Numbers, square, Laddered}

-- answers are told apart by their numbers
same_answer : (r s : Square) → square r ≡ square s → r ≡ s
same_answer r s e =
    ap (λ (q : Result Unit Refusal). made q r.lines) (told_in_once r.refusal s.refusal (ap (λ (n : Numbers). n.refusal) e))
    ∙ ap (λ (l : List Line). made s.refusal l) (ap (λ (n : Numbers). n.lines) e)
  where
    made : Result Unit Refusal → List Line → Square
    made q l = record { refusal = q; lines = l }

pub determined : (t : Table) (map pins map₁ pins₁ map₂ pins₂ : List ℕ) (r s : Square) → Laddered t map pins map₁ pins₁ r → Laddered t map pins map₂ pins₂ s
    → (r ≡ s) × (map₁ ≡ map₂) × (pins₁ ≡ pins₂)
determined t map pins map₁ pins₁ map₂ pins₂ r s p q =
    (same_answer r s (p.answer ∙ sym q.answer), p.map_is ∙ sym q.map_is, p.pins_is ∙ sym q.pins_is)
