-- The parts of the line in turn; their numbers have 16 and 32 bits.
use native.Mathlib.Omega.{arith}
use Rattle.text_decimal.proofs.Puts.{written, written_then}
use Rattle.text_lines.specs.Line.{infeasible_line}
use Rattle.text_lines.proofs.Lines.{infeasible_short}
use Rattle.text_lines.proofs.put_infeasible.Goals as goal

pub returns : goal.returns
unfolding infeasible_line
returns c = record {
  written = written_then (written_then (written_then (written_then c.put_part.ensures c.put_part-2.ensures) c.put_part-3.ensures) c.put_part-4.ensures) (written c.put_text.ensures);
  short = infeasible_short c.args.number c.args.t c.args.work c.args.supply (omega arith) (omega arith) (omega arith) (omega arith);
}
