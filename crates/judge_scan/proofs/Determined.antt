-- The scan's contract determines its line, for a list that holds a map.
use mathlib.Core.Path.{◌≡◌, refl, sym, ap, ◌∙◌}
use mathlib.Core.Bool.{true≢false, false≢true}
use mathlib.Core.List.{List}
use Prim.Native.Nat.{ℕ}
use Rattle.std.specs.Prelude.{Option, Some, None}
use Rattle.model.specs.Model.{Map}
use Rattle.sets.specs.Word.{words}
use Rattle.basics.specs.Over.{Holds}
use Rattle.table.specs.declared.Table.{Table}
use Rattle.table.specs.Meaning.{model_of}
use Rattle.judge_scan.specs.declared.Line.{Line}
use Rattle.judge_scan.specs.Lines.{Answered, Scanned}

same_line : {l : Line} (r s : Option Line) → Answered l r → Answered l s → r ≡ s
same_line None None p q = refl
same_line None (Some s) p q = absurd (false≢true (p.some ∙ sym q.some))
same_line (Some r) None p q = absurd (true≢false (p.some ∙ sym q.some))
same_line (Some r) (Some s) p q = ap Some (p.numbers ∙ sym q.numbers)

pub determined : (t : Table) (h : ℕ) (map : List ℕ) (A : Map) → Holds (words (model_of t) A) h map → (r s : Option Line) → Scanned t h map r → Scanned t h map s → r ≡ s
determined t h map A held r s p q = same_line r s (p A held) (q A held)
