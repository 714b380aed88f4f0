-- A row past the width is in neither set; else the digit is moved.
use mathlib.Core.Path.{sym}
use native.Mathlib.Omega.{arith}
use Rattle.std.specs.Int.{w32}
use Rattle.sets.specs.Word.{width}
use Rattle.sets.proofs.Words.{member_high, put_high}
use Rattle.sets.proofs.Digits.{take_digit}
use Rattle.sets.proofs.taking.Goals as goal

pub returns-then-i-ge-WIDTH : goal.returns-then-i-ge-WIDTH
returns-then-i-ge-WIDTH c = rw (member_high width c.args.i c.args.v (omega arith) c.ranges.v.fits) (sym (put_high width c.args.i c.args.w (omega arith) c.ranges.w.fits))

pub returns : goal.returns
returns c = take_digit w32 c.args.i (omega arith) c.args.w c.args.v c.ranges.w.fits c.ranges.v.fits
