-- The two lent lists after a verdict at depth x, and after a refusal.
use Rattle.std.specs.Prelude.{cond, List, ℕ, ◌-◌, eqb, length}
use Rattle.model.specs.Depths.{available, pinned_at}
use Rattle.basics.specs.Filled.{filled}
use Rattle.table.specs.declared.Table.{Table}
use Rattle.table.specs.Check.{Numbers}
use Rattle.table.specs.Meaning.{model_of}
use Rattle.sets.specs.Word.{words}
use Rattle.judge_admit.specs.Admit.{admit_of}

-- "Every refusal leaves all lent memory untouched"; else the first H words of the list are those of a rule, and "Words from H on are unchanged"
abbrev pub unless_refused : Numbers → (ℕ → ℕ) → List ℕ → List ℕ
unless_refused c f l = cond (eqb c.refusal.no 0) (filled f c.frame l) l

-- "the first H words of the first (the slot map) hold the available sets at depth x"
unfoldable pub map_after : Table → ℕ → List ℕ → List ℕ → List ℕ
map_after t x map pins =
    unless_refused (admit_of t (length map) (length pins)) (words (model_of t) (available (model_of t) x)) map

-- "those of the second hold the pinned sets at depth x - 1, or zeros when x is 1": at depth 0 nothing is pinned
unfoldable pub pins_after : Table → ℕ → List ℕ → List ℕ → List ℕ
pins_after t x map pins =
    unless_refused (admit_of t (length map) (length pins)) (words (model_of t) (pinned_at (model_of t) (x - 1))) pins
