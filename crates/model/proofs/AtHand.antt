-- Cases at hand, computed straight from the definitions: each turn that a definition could take wrongly makes one of these false.
use mathlib.Core.Path.{◌≡◌, refl}
use mathlib.Core.Bool.{true, false}
use mathlib.Core.List.{[], ◌∷◌}
use Rattle.basics.specs.Sum.{sum}
use Rattle.model.specs.Model.{Model}
use Rattle.model.specs.Windows.{window}
use Rattle.model.specs.Pins.{size, pin, pins, pinned}
use Rattle.model.specs.Depths.{full, next, available, pinned_at}
use Rattle.model.specs.Supply.{usable, supply}
use Rattle.model.specs.Work.{jobs_due, work_due}
use Rattle.model.specs.Failing.{fails, least_failing}
use Rattle.model.specs.Tests.{sequential}

-- one row (4,1,3) on one processor: its window is three slots, and no fourth
abbrev one : Model
one = sequential 1 (4 ∷ []) (1 ∷ []) (3 ∷ [])

pub window_ends : (window one 2 0 ≡ true) × (window one 3 0 ≡ false)
unfolding window
window_ends = (refl, refl)

-- a set of exactly m rows pins, and no more slots than the execution time
pub pins_at_capacity : (pinned_at one 1 0 0 ≡ true) × (pinned_at one 1 1 0 ≡ false)
unfolding sum window size pin pins pinned full next available pinned_at
pins_at_capacity = (refl, refl)

-- "the floor is -1 for t below D"
pub none_due : (jobs_due one 0 2 ≡ 0) × (jobs_due one 0 3 ≡ 1)
unfolding jobs_due
none_due = (refl, refl)

-- rows (2,1,1) and (2,1,2) on one processor
abbrev crowded : Model
crowded = sequential 1 (2 ∷ 2 ∷ []) (1 ∷ 1 ∷ []) (1 ∷ 2 ∷ [])

-- nothing is pinned where more rows are available than there are processors, and the supply is no more than these
pub crowded_slot : (pinned_at crowded 1 0 0 ≡ false) × (pinned_at crowded 1 0 1 ≡ false) × (usable crowded (available crowded 1) 0 ≡ 1)
unfolding sum window size pin pins pinned full next available pinned_at usable
crowded_slot = (refl, refl, refl)

-- the second row is pinned in slot 1, "later slots included": so at depth 2 it is not available in slot 0
pub later_pins : (pinned_at crowded 1 1 1 ≡ true) × (available crowded 2 0 1 ≡ false)
unfolding sum window size pin pins pinned full next available pinned_at
later_pins = (refl, refl)

-- rows (1,1,1) and (2,1,1) on one processor: both lengths fail, and "the least such t" is given
abbrev failing : Model
failing = sequential 1 (1 ∷ 2 ∷ []) (1 ∷ 1 ∷ []) (1 ∷ 1 ∷ [])

pub least_of_two : (fails failing (available failing 1) 2 ≡ true) × (least_failing failing (available failing 1) 2 ≡ 1)
unfolding sum window size available usable supply jobs_due work_due fails least_failing
least_of_two = (refl, refl)

-- "with one processor and rows (5,2,4) and (4,1,3)"
abbrev two : Model
two = sequential 1 (5 ∷ 4 ∷ []) (2 ∷ 1 ∷ []) (4 ∷ 3 ∷ [])

-- "the first row's job released at 5 is pinned in slot 7 at depth 1, but in slots 5 and 6, and not in 7, at depth 2": pinned sets may shrink
pub pins_shrink : (pinned_at two 1 7 0 ≡ true) × (pinned_at two 2 5 0 ≡ true) × (pinned_at two 2 6 0 ≡ true) × (pinned_at two 2 7 0 ≡ false)
unfolding sum window size pin pins pinned full next available pinned_at
pins_shrink = (refl, refl, refl, refl)
