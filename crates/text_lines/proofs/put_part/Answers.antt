-- The word, and the number right after it.
use Rattle.text_decimal.proofs.Puts.{written, written_then}
use Rattle.text_lines.proofs.put_part.Goals as goal

pub returns : goal.returns
returns c = written_then (written c.put_text.ensures) (written c.put_decimal.ensures)
