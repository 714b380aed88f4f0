-- Numbers in decimal, by computing: the highest digit first, and no zero in front.
use mathlib.Core.Path.{◌≡◌, refl}
use mathlib.Core.List.{[], ◌∷◌}
use Rattle.text_decimal.specs.Decimal.{decimal_in, decimal}

pub decimal_0 : decimal 0 ≡ 48 ∷ []
unfolding decimal decimal_in
decimal_0 = refl

pub decimal_7 : decimal 7 ≡ 55 ∷ []
unfolding decimal decimal_in
decimal_7 = refl

pub decimal_120 : decimal 120 ≡ 49 ∷ 50 ∷ 48 ∷ []
unfolding decimal decimal_in
decimal_120 = refl
