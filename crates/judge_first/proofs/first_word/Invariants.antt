-- The word has the rows below i in whose windows the slot is.
use mathlib.Core.Path.{◌≡◌}
use Rattle.sets.specs.Word.{word}
use Rattle.judge_first.specs.Spans.{in_windows}
use Rattle.judge_first.proofs.first_word.Given as goal

abbrev pub invariant-loop-i : goal.invariant-loop-i
invariant-loop-i l = l.w ≡ word l.i (in_windows l.spans l.s)
