-- The contract of the judge determines its outcome: two that meet it are the same, lists too.
use mathlib.Core.Path.{◌≡◌, sym, ap, ◌∙◌}
use mathlib.Core.Bool.{not, true≢false, false≢true}
use mathlib.Core.List.{List}
use Prim.Native.Nat.{ℕ}
use lib.Dec.{eqb}
use Rattle.table.specs.declared.Table.{Table}
use Rattle.refusal.specs.declared.Refusal.{Refusal}
use Rattle.std.specs.Prelude.{Result, Ok, Err}
use Rattle.judge.specs.declared.Verdict.{Verdict}
use Rattle.judge.specs.declared.Verdict.TheVariants.{Infeasible, Undecided}
use Rattle.refusal.proofs.Told.{number_some, told_once}
use Rattle.judge.specs.Judge.{Numbers, numbers, infeasible, Judged}

-- answers are told apart by their numbers and by infeasible or not
pub same_verdict : (r s : Result Verdict Refusal) → numbers r ≡ numbers s → infeasible r ≡ infeasible s → r ≡ s
same_verdict (Ok (Infeasible t w p h)) (Ok (Infeasible t' w' p' h')) e c = ap (λ (n : Numbers). Ok (Infeasible n.t n.work n.supply n.frame)) e
same_verdict (Ok (Infeasible t w p h)) (Ok (Undecided h')) e c = absurd (true≢false c)
same_verdict (Ok (Infeasible t w p h)) (Err r') e c = absurd (true≢false c)
same_verdict (Ok (Undecided h)) (Ok (Infeasible t' w' p' h')) e c = absurd (false≢true c)
same_verdict (Ok (Undecided h)) (Ok (Undecided h')) e c = ap (λ (n : Numbers). Ok (Undecided n.frame)) e
same_verdict (Ok (Undecided h)) (Err r') e c = absurd (number_some r'.rule (sym (ap (λ (n : Numbers). n.refusal.no) e)))
same_verdict (Err r) (Ok (Infeasible t' w' p' h')) e c = absurd (false≢true c)
same_verdict (Err r) (Ok (Undecided h')) e c = absurd (number_some r.rule (ap (λ (n : Numbers). n.refusal.no) e))
same_verdict (Err r) (Err r') e c = ap Err (told_once r r' (ap (λ (n : Numbers). n.refusal) e))

pub determined : (t : Table) (map pins map₁ pins₁ map₂ pins₂ : List ℕ) (r s : Result Verdict Refusal)
    → Judged t map pins map₁ pins₁ r → Judged t map pins map₂ pins₂ s → (r ≡ s) × (map₁ ≡ map₂) × (pins₁ ≡ pins₂)
determined t map pins map₁ pins₁ map₂ pins₂ r s p q =
    let e : numbers r ≡ numbers s = p.answer ∙ sym q.answer in
    let c : infeasible r ≡ infeasible s = p.case ∙ ap (λ (n : Numbers). not (eqb n.t 0)) e ∙ sym q.case in (
      same_verdict r s e c,
      p.map_is ∙ sym q.map_is,
      p.pins_is ∙ sym q.pins_is,
    )
