-- Bodies with two faults, by computing: the refusal that comes first is the one that is given.
use mathlib.Core.Path.{◌≡◌, refl}
use mathlib.Core.List.{[], ◌∷◌}
use Rattle.basics.specs.Range.{inside}
use Rattle.basics.specs.When.{when, unless}
use Rattle.refusal.specs.Refusal.{refuse}
use Rattle.table.specs.Check.{check_of, check_rows}
use Rattle.file_bodies.specs.Body.{body_table}
use Rattle.file_bodies.specs.Refusal.{body_refusal}

-- no processor, and no byte of its one row: 15 and not 1
pub length_first : body_refusal (0 ∷ 1 ∷ 1 ∷ 0 ∷ []) ≡ refuse 15
unfolding body_refusal when unless body_table check_of check_rows inside
length_first = refl

-- no processor, and a zero byte that is 1: 15 and not 1
pub zero_first : body_refusal (0 ∷ 1 ∷ 0 ∷ 1 ∷ []) ≡ refuse 15
unfolding body_refusal when unless body_table check_of check_rows inside
zero_first = refl
