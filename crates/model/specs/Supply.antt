-- What the slots offer.
use Rattle.std.specs.Prelude.{ℕ, ◌-◌, min}
use Rattle.basics.specs.Sum.{sum}
use Rattle.model.specs.Model.{Model, Map}
use Rattle.model.specs.Pins.{size}

-- "Usable supply in t: the smaller of m and the size of the available set"
unfoldable pub usable : Model → Map → ℕ → ℕ
usable M A t = min (M.capacity t) (size M A t)

-- "the unusable part is m less that"
unfoldable pub unusable : Model → Map → ℕ → ℕ
unusable M A t = M.capacity t - usable M A t

-- "the usable supply of slots 0 to t - 1"
unfoldable pub supply : Model → Map → ℕ → ℕ
supply M A t = sum t (usable M A)
