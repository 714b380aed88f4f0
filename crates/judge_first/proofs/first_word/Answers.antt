-- Each turn gives the word of one row more.
use mathlib.Core.Path.{◌≡◌, sym, ap, ◌∙◌}
use native.Mathlib.Omega.{arith}
use Rattle.sets.specs.Word.{adding, width}
use Rattle.judge_first.specs.Spans.{in_windows}
use Rattle.judge_first.proofs.Next.{word_with, word_same}
use Rattle.judge_first.proofs.first_word.Goals.{then-in_window, else-in_window}
use Rattle.judge_first.proofs.first_word.Goals as goal

pub in_window-requires : goal.in_window-requires
in_window-requires c = c.requires.positive c.loop-i.i (omega arith)

pub loop-i-preserved : goal.loop-i-preserved
loop-i-preserved c =
    let i = c.loop-i.i in
    let p = in_windows c.args.spans.now c.args.s in
    let e : c.in_window.result ≡ p i = c.in_window.ensures in
    elim c.if-in_window.branch [
      | then-in_window w ↦
          w.w-is ∙ w.with-w.ensures ∙ ap (adding width i) c.loop-i.invariant ∙ word_with p i (omega (arith, c.requires.few)) (sym e ∙ w.if-in_window.true)
      | else-in_window w ↦ w.w-is ∙ c.loop-i.invariant ∙ word_same p i (sym e ∙ w.if-in_window.false)
    ]
