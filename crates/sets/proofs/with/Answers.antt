-- A row below the width is in the set of all rows; one past it changes nothing.
use mathlib.Core.Path.{◌∙◌}
use mathlib.Core.Logic.{⊎_elim}
use Prim.Native.Nat.{ℕ, ◌-◌, ◌^◌, ◌≤◌, ◌<◌}
use lib.Dec.{lit<}
use borrow.Author.Tests.{lt-ltb, le-ltb}
use Rattle.std.proofs.lemmas.Bool.{cases_lt}
use Rattle.sets.specs.Word.{width, adding}
use Rattle.sets.proofs.Words.{put_high, member_high}
use Rattle.sets.proofs.Digits.{member_all}
use Rattle.sets.proofs.with.Goals as goal

pub returns : goal.returns
unfolding adding
returns c =
    let all : ℕ = 2 ^ width - 1 in
    ⊎_elim
    (λ (l : c.args.i < width). rw (lt-ltb c.args.i width l) (rw (member_all width c.args.i l) at c.taking.ensures))
    (λ (h : width ≤ c.args.i). rw (le-ltb c.args.i width h) (c.taking.ensures ∙ rw (member_high width c.args.i all h (lit< tt)) (put_high width c.args.i c.args.w h c.ranges.w.fits)))
    (cases_lt c.args.i width)
