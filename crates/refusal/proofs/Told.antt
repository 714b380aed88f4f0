-- A refusal's numbers are those of one refusal alone, and no refusal has number 0.
use Rattle.std.proofs.Common.{◌≡◌, ℕ, refl, sym, ap, ◌∙◌, arith, get_or}
use Rattle.std.specs.Prelude.{List, [], ◌∷◌, Result, Ok, Err}
use Rattle.refusal.specs.declared.Refusal.{Refusal}
use Rattle.refusal.specs.declared.Rule.{Rule}
use Rattle.refusal.specs.declared.Rule.TheVariants.{
  Processors,
  Depth,
  Count,
  Period,
  Deadline,
  Execution,
  Frame,
  Lists,
  Bytes,
  Form,
  Entries,
  Kind,
  Place,
  Sum,
  Body,
  Twice,
  NoTable,
  NoRow,
  Output,
}
use Rattle.refusal.specs.Refusal.{Numbered}
use Rattle.refusal.specs.Told.{number, told, told_in, number_in}

-- the rules by their numbers; none has number 0
unfoldable rules : List Rule
rules = Output ∷ Processors ∷ Depth ∷ Count ∷ Period ∷ Deadline ∷ Execution ∷ Frame ∷ Lists ∷ Bytes ∷ Form ∷ Entries ∷ Kind ∷ Place ∷ Sum ∷ Body ∷ Twice ∷ NoTable ∷ NoRow ∷ Output ∷ []

unfoldable rule_of : ℕ → Rule
rule_of n = get_or rules n Output

rule_back : (k : Rule) → rule_of (number k) ≡ k
unfolding rule_of rules
rule_back Processors = refl
rule_back Depth = refl
rule_back Count = refl
rule_back Period = refl
rule_back Deadline = refl
rule_back Execution = refl
rule_back Frame = refl
rule_back Lists = refl
rule_back Bytes = refl
rule_back Form = refl
rule_back Entries = refl
rule_back Kind = refl
rule_back Place = refl
rule_back Sum = refl
rule_back Body = refl
rule_back Twice = refl
rule_back NoTable = refl
rule_back NoRow = refl
rule_back Output = refl

pub number_once : (a b : Rule) → number a ≡ number b → a ≡ b
number_once a b e = sym (rule_back a) ∙ ap rule_of e ∙ rule_back b

pub number_some : (k : Rule) → number k ≡ 0 → ⊥
number_some Processors e = absurd (omega (arith, e))
number_some Depth e = absurd (omega (arith, e))
number_some Count e = absurd (omega (arith, e))
number_some Period e = absurd (omega (arith, e))
number_some Deadline e = absurd (omega (arith, e))
number_some Execution e = absurd (omega (arith, e))
number_some Frame e = absurd (omega (arith, e))
number_some Lists e = absurd (omega (arith, e))
number_some Bytes e = absurd (omega (arith, e))
number_some Form e = absurd (omega (arith, e))
number_some Entries e = absurd (omega (arith, e))
number_some Kind e = absurd (omega (arith, e))
number_some Place e = absurd (omega (arith, e))
number_some Sum e = absurd (omega (arith, e))
number_some Body e = absurd (omega (arith, e))
number_some Twice e = absurd (omega (arith, e))
number_some NoTable e = absurd (omega (arith, e))
number_some NoRow e = absurd (omega (arith, e))
number_some Output e = absurd (omega (arith, e))

made : Rule → ℕ → ℕ → Refusal
made k i j = record { rule = k; entry = i; row = j }

pub told_once : (r s : Refusal) → told r ≡ told s → r ≡ s
unfolding made
told_once r s e =
    let a : r.rule ≡ s.rule = number_once r.rule s.rule (ap (λ (n : Numbered). n.no) e) in
    let b : r.entry ≡ s.entry = ap (λ (n : Numbered). n.entry) e in
    let c : r.row ≡ s.row = ap (λ (n : Numbered). n.row) e in
    ap (λ (k : Rule). made k r.entry r.row) a ∙ ap (λ (i : ℕ). made s.rule i r.row) b ∙ ap (λ (j : ℕ). made s.rule s.entry j) c

-- an answer with nothing in its Ok is told by its numbers
pub told_in_once : (r s : Result Unit Refusal) → told_in r ≡ told_in s → r ≡ s
told_in_once (Ok x) (Ok y) e = refl
told_in_once (Ok x) (Err q) e = absurd (number_some q.rule (sym (ap (λ (n : Numbered). n.no) e)))
told_in_once (Err q) (Ok x) e = absurd (number_some q.rule (ap (λ (n : Numbered). n.no) e))
told_in_once (Err q) (Err p) e = ap Err (told_once q p e)

pub number_in_once : (r s : Result Unit Rule) → number_in r ≡ number_in s → r ≡ s
number_in_once (Ok x) (Ok y) e = refl
number_in_once (Ok x) (Err q) e = absurd (number_some q (sym e))
number_in_once (Err q) (Ok x) e = absurd (number_some q e)
number_in_once (Err q) (Err p) e = ap Err (number_once q p e)
