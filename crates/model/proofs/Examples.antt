-- Models that have a valid schedule, so that the definition is seen not to be empty.
use mathlib.Core.Path.{refl}
use mathlib.Core.Bool.{not}
use mathlib.Core.List.{[], ◌∷◌}
use Prim.Native.Nat.{◌+◌, ◌%◌}
use lib.Dec.{eqb}
use Rattle.basics.specs.Sum.{sum, all}
use Rattle.model.specs.Model.{Model, Map}
use Rattle.model.specs.Windows.{window}
use Rattle.model.specs.Pins.{size}
use Rattle.model.specs.Schedule.{Valid}
use Rattle.model.specs.Tests.{sequential, sound, valid}
use Rattle.model.proofs.Tests.{sound_ok, valid_ok}

-- one row (4,1,3) on one processor, run in the third slot of each window
abbrev one : Model
one = sequential 1 (4 ∷ []) (1 ∷ []) (3 ∷ [])

pub has_schedule : Valid one 4 (λ t i. eqb (t % 4) 2)
unfolding all sound valid sum window size
has_schedule = valid_ok one (sound_ok one refl) 4 (λ t i. eqb (t % 4) 2) refl

-- three rows (3,2,3) on two processors: in each slot all run but one, and the first row's job is interrupted in slot 1
abbrev three : Model
three = sequential 2 (3 ∷ 3 ∷ 3 ∷ []) (2 ∷ 2 ∷ 2 ∷ []) (3 ∷ 3 ∷ 3 ∷ [])

abbrev pub turns : Map
turns t i = not (eqb i ((t + 2) % 3))

pub has_interrupted : Valid three 3 turns
unfolding all sound valid sum window size
has_interrupted = valid_ok three (sound_ok three refl) 3 turns refl
