-- The rows below the count are seen one by one; what they come to is the answer.
use mathlib.Core.Path.{◌≡◌, refl, sym, ap, subst, ◌∙◌}
use Prim.Native.Nat.{ℕ}
use native.Mathlib.Omega.{arith}
use lib.Seq.{get_or-take}
use Rattle.table_row.specs.Row.{no_row}
use Rattle.table.specs.declared.Table.{Table}
use Rattle.table.specs.Rows.{row_at, beside_of}
use Rattle.table.specs.Check.{check_of}
use Rattle.table.specs.Seen.{SeenNumbers, seen, none_seen, step_of, finish_of}
use Rattle.table.proofs.SoFar.{SoFar, so_far_none, so_far_step, so_far_all}
use Rattle.table.proofs.check.Goals as goal

-- all rows below the count are seen
whole : (t : Table) (n : ℕ) (s : SeenNumbers) → n ≡ t.count → SoFar (beside_of t) (row_at t) n s → finish_of s ≡ check_of t
unfolding check_of
whole t n s e a = so_far_all (row_at t) (beside_of t) t.count s (subst (λ (k : ℕ). SoFar (beside_of t) (row_at t) k s) e a)

pub returns-then-n-gt-ROWS : goal.returns-then-n-gt-ROWS
returns-then-n-gt-ROWS c =
    let t = c.args.t in
    c.finish.ensures
    ∙ whole t t.count _ refl
    (record {
      beside = ap (λ (s : SeenNumbers). s.beside) c.start-s.ensures ∙ c.into.ensures;
      few = λ h. absurd (omega (arith, c.if-n-gt-ROWS.true));
      many = λ h. refl;
    })

pub loop-row-init : goal.loop-row-init
loop-row-init c =
    let t = c.args.t in
    subst (SoFar (beside_of t) (row_at t) 0) (sym (c.start-s.ensures ∙ ap none_seen c.into.ensures)) (so_far_none _ _)

pub loop-row-preserved : goal.loop-row-preserved
loop-row-preserved c =
    let t = c.args.t in
    let l = c.loop-row in
    let row = get_or-take t.count t.rows l.row-index no_row (omega arith) in
    subst (SoFar (beside_of t) (row_at t) _) (sym (c.step-s.ensures ∙ ap (step_of (seen l.s)) row)) (so_far_step (row_at t) _ _ _ l.invariant)

pub returns : goal.returns
returns c =
    let t = c.args.t in
    let e : c.loop-row.row-index ≡ t.count = omega arith in
    c.finish-2.ensures ∙ whole t _ _ e c.loop-row.invariant
