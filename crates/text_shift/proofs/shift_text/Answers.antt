-- The line of the refusal, or the lines of all entries; the output has 4,096 bytes, for 64 lines of at most 64.
use mathlib.Core.Path.{refl, sym, ap}
use Rattle.refusal.specs.Refusal.{Numbered}
use Rattle.text_shift.proofs.Texts.{shifted_refused, shifted_lines}
use Rattle.text_shift.proofs.shift_text.Goals as goal

pub returns-in-Err : goal.returns-in-Err
returns-in-Err c = shifted_refused refl c.told-out c.in-Err.r c.in-Err.ensures c.put_refused.ensures

pub returns : goal.returns
returns c = shifted_lines refl c.told-out (sym (ap (λ (q : Numbered). q.no) c.in-Ok.ensures)) c.count.ensures c.put_lines.ensures
