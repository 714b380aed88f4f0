-- The parts of the line in turn; their numbers have 16 and 32 bits.
use native.Mathlib.Omega.{arith}
use Rattle.text_decimal.proofs.Puts.{written, written_then}
use Rattle.text_lines.specs.Line.{undecided_line}
use Rattle.text_lines.proofs.Lines.{undecided_short}
use Rattle.text_lines.proofs.put_undecided.Goals as goal

pub returns : goal.returns
unfolding undecided_line
returns c = record {
  written = written_then (written_then c.put_part.ensures c.put_part-2.ensures) (written c.put_text.ensures);
  short = undecided_short c.args.number c.args.h (omega arith) (omega arith);
}
