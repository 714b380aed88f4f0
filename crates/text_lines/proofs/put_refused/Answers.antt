-- The parts of the line in turn; their numbers have 8 bits.
use native.Mathlib.Omega.{arith}
use Rattle.text_decimal.proofs.Puts.{written, written_then}
use Rattle.text_lines.specs.Line.{refused_line}
use Rattle.text_lines.proofs.Lines.{refused_short}
use Rattle.text_lines.proofs.put_refused.Goals as goal

pub returns : goal.returns
unfolding refused_line
returns c = rw (← c.from-no.ensures) record {
  written = written_then (written_then (written_then c.put_part.ensures c.put_part-2.ensures) c.put_part-3.ensures) (written c.put_text.ensures);
  short = refused_short (record { no = c.from-no.result; entry = c.args.r.entry; row = c.args.r.row }) (omega arith) (omega arith) (omega arith);
}
