-- m, x, the count and the first i rows are written.
use Prim.Native.Nat.{◌+◌, ◌*◌}
use Rattle.c_numbers.specs.Lent.{numbers_of}
use Rattle.c_numbers.proofs.Upto.{Upto}
use Rattle.c_numbers.proofs.lent.numbers.Given as goal

abbrev pub invariant-loop-i : goal.invariant-loop-i
invariant-loop-i l = Upto (numbers_of l.fn.t) (3 + 3 * l.i) l.all
