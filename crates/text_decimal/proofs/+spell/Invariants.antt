-- The number falls with each call.
use Rattle.text_decimal.proofs.+spell.Given as goal

abbrev pub decreases-spell : goal.decreases-spell
decreases-spell l = l.v
