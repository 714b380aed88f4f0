-- Each contract determines all that its function writes: two outcomes that meet it are equal. That of the shift check's text is the text's own, and is shown to do so there.
use mathlib.Core.Path.{◌≡◌, sym, ◌∙◌}
use mathlib.Core.List.{List}
use Prim.Native.Nat.{ℕ}
use Rattle.refusal.specs.Refusal.{Numbered}
use Rattle.table.specs.declared.Table.{Table}
use Rattle.awelodrun.specs.Outcomes.{Judges, Ladders, Gives, Writes}

-- a list that an equation gives: the answers of both checks
pub answer_determined : {n answer₁ answer₂ : List ℕ} → answer₁ ≡ n → answer₂ ≡ n → answer₁ ≡ answer₂
answer_determined p q = p ∙ sym q

pub judge_determined : {t : Table} {map pins map₁ pins₁ answer₁ map₂ pins₂ answer₂ : List ℕ}
    → Judges t map pins map₁ pins₁ answer₁ → Judges t map pins map₂ pins₂ answer₂
    → (map₁ ≡ map₂) × (pins₁ ≡ pins₂) × (answer₁ ≡ answer₂)
judge_determined p q = (p.map_is ∙ sym q.map_is, p.pins_is ∙ sym q.pins_is, p.answer_is ∙ sym q.answer_is)

pub ladder_determined : {t : Table} {map pins map₁ pins₁ square₁ answer₁ map₂ pins₂ square₂ answer₂ : List ℕ}
    → Ladders t map pins map₁ pins₁ square₁ answer₁ → Ladders t map pins map₂ pins₂ square₂ answer₂
    → (map₁ ≡ map₂) × (pins₁ ≡ pins₂) × (square₁ ≡ square₂) × (answer₁ ≡ answer₂)
ladder_determined p q =
    (p.map_is ∙ sym q.map_is, p.pins_is ∙ sym q.pins_is, p.square_is ∙ sym q.square_is, p.answer_is ∙ sym q.answer_is)

-- add, remove and find
pub table_determined : {t : Table} {r : Numbered} {table₁ answer₁ table₂ answer₂ : List ℕ}
    → Gives t r table₁ answer₁ → Gives t r table₂ answer₂ → (table₁ ≡ table₂) × (answer₁ ≡ answer₂)
table_determined p q = (p.table_is ∙ sym q.table_is, p.answer_is ∙ sym q.answer_is)

pub put_determined : {file out out₁ answer₁ out₂ answer₂ : List ℕ} {number : ℕ} {t : Table}
    → Writes file number t out out₁ answer₁ → Writes file number t out out₂ answer₂ → (out₁ ≡ out₂) × (answer₁ ≡ answer₂)
put_determined p q = (p.out_after ∙ sym q.out_after, p.answer_is ∙ sym q.answer_is)
