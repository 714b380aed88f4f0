-- A row below the width is in the set where its digit says so; one past it is in no set.
use mathlib.Core.Path.{refl}
use native.Mathlib.Omega.{arith}
use borrow.Author.Tests.{le-ltb}
use Rattle.std.proofs.lemmas.Nat.Bits.{shr_and_one}
use Rattle.sets.specs.Word.{width, member}
use Rattle.sets.proofs.Words.{member_high}
use Rattle.sets.proofs.has.Goals as goal

pub returns-then-i-lt-WIDTH : goal.returns-then-i-lt-WIDTH
unfolding member
returns-then-i-lt-WIDTH c = rw (shr_and_one c.args.w c.args.i) refl

pub returns-else-i-lt-WIDTH : goal.returns-else-i-lt-WIDTH
returns-else-i-lt-WIDTH c =
    rw (le-ltb c.args.i width (omega arith), member_high width c.args.i c.args.w (omega arith) c.ranges.w.fits) refl
