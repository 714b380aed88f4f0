-- What is left in the two lists at a depth.
use Rattle.std.specs.Prelude.{List, ℕ, ◌-◌}
use Rattle.basics.specs.Over.{Over}
use Rattle.model.specs.Model.{Model}
use Rattle.model.specs.Depths.{available, pinned_at}
use Rattle.sets.specs.Word.{words}

-- "the first H words of the first (the slot map) hold the available sets at depth x, and those of the second hold the pinned sets at depth x - 1, or zeros when x is 1. Words from H on are unchanged."
pub record Reached (M : Model) (x h : ℕ) (map pins map' pins' : List ℕ) : Type 0 where
  pub available_sets : Over (words M (available M x)) 0 h map map'
  pub pinned_sets : Over (words M (pinned_at M (x - 1))) 0 h pins pins'
