-- What the test of an entry tells: of the rules, and by them of whatever meets the judge's contract.
use mathlib.Core.Path.{◌≡◌, sym, ◌∙◌}
use mathlib.Core.Bool.{true}
use mathlib.Core.List.{List}
use mathlib.Core.Logic.{⊎_elim}
use Prim.Native.Nat.{ℕ, ◌-◌, ◌≤◌, ◌<◌}
use native.Mathlib.Omega.{arith}
use lib.Dec.{eqb}
use lib.ListN.{length, get_or}
use borrow.Author.Tests.{eqb-true, le-ltb}
use Rattle.model.specs.Depths.{available, pinned_at}
use Rattle.basics.proofs.Bools.{and_left, and_right}
use Rattle.basics.proofs.Sums.{all_at}
use Rattle.table.specs.Check.{framed, check_of}
use Rattle.refusal.specs.Refusal.{none}
use Rattle.table.proofs.Accepted.{outcome}
use Rattle.sets.specs.Word.{words}
use Rattle.judge_scan.specs.declared.Line.{Line}
use Rattle.judge_scan.specs.Lines.{line_at}
use Rattle.std.specs.Prelude.{Result}
use Rattle.refusal.specs.declared.Refusal.{Refusal}
use Rattle.judge.specs.declared.Verdict.{Verdict}
use Rattle.judge_admit.specs.Admit.{admit_of}
use Rattle.judge.specs.Judge.{given, numbers as verdict_numbers, judge_of, Judged}
use Rattle.judge_admit.proofs.Admitted.{admit_frame}
use Rattle.judge.proofs.Meaning.{map_left, pins_left}
use Rattle.try_marked.specs.declared.Case.{Case}
use Rattle.try_marked.specs.Case.{no_case, case_table, model_in, line_in, map_of, pins_of, checks, same_line, answers, mapped, pinned_in, right}
use Rattle.try_marked.specs.Paper.{Kept}

-- an entry that agrees with the rules
pub record Right (c : Case) : Type 0 where
  pub check : framed c.frame ≡ check_of (case_table c)
  pub line : line_at (model_in c) c.depth c.frame ≡ line_in c
  pub map : (s : ℕ) → s < length (map_of c.lists) → words (model_in c) (available (model_in c) c.depth) s ≡ get_or (map_of c.lists) s 0
  pub pins : (s : ℕ) → s < length (pins_of c.lists) → words (model_in c) (pinned_at (model_in c) (c.depth - 1)) s ≡ get_or (pins_of c.lists) s 0

same_line_lem : (l k : Line) → same_line l k ≡ true → l ≡ k
same_line_lem l k e =
    let rest = and_right (eqb l.t k.t) _ e in
    let t : l.t ≡ k.t = eqb-true _ _ (and_left (eqb l.t k.t) _ e) in
    let work : l.work ≡ k.work = eqb-true _ _ (and_left (eqb l.work k.work) _ rest) in
    let supply : l.supply ≡ k.supply = eqb-true _ _ (and_right (eqb l.work k.work) _ rest) in
    λ i. record { t = t i; work = work i; supply = supply i }

check_is : (c : Case) → checks c ≡ true → framed c.frame ≡ check_of (case_table c)
unfolding checks
check_is c e =
    let a = check_of (case_table c) in
    let no : a.refusal.no ≡ 0 = eqb-true _ _ (and_left (eqb a.refusal.no 0) _ e) in
    let frame : a.frame ≡ c.frame = eqb-true _ _ (and_right (eqb a.refusal.no 0) _ e) in
    let refusal : a.refusal ≡ none = ⊎_elim (λ f. f.1) (λ r. absurd (omega (arith, r.number))) (outcome (case_table c)) in
    sym (λ i. record { refusal = refusal i; frame = frame i })

pub right_is : (c : Case) → right c ≡ true → Right c
unfolding right answers mapped pinned_in
right_is c e =
    let rest = and_right (checks c) _ e in
    let lists = and_right (answers c) _ rest in
    record {
      check = check_is c (and_left (checks c) _ e);
      line = same_line_lem _ _ (and_left (answers c) _ rest);
      map = λ s l. eqb-true _ _ (all_at (length (map_of c.lists)) _ (and_left (mapped c) _ lists) s l);
      pins = λ s l. eqb-true _ _ (all_at (length (pins_of c.lists)) _ (and_right (mapped c) _ lists) s l);
    }

-- the one statement, at each entry
pub marked_right : (cases : List Case) → Kept cases → (i : ℕ) → i < 10 → Right (get_or cases i no_case)
marked_right cases k i l = right_is (get_or cases i no_case) (all_at 10 (λ i. right (get_or cases i no_case)) k.rules i l)

-- the contract of the constant determines it
pub determined : (r s : List Case) → Kept r → Kept s → r ≡ s
determined r s p q = p.entries ∙ sym q.entries

-- the judge on an entry that is right, with lists that are long enough: its verdict is the entry's answer, and its lists hold the words that are told
module _ (c : Case) (R : Right c) (map pins map' pins' : List ℕ) (m : c.frame ≤ length map) (p : c.frame ≤ length pins) (r : Result Verdict Refusal)
    (J : Judged (case_table c) map pins map' pins' r) where
  admits : admit_of (case_table c) (length map) (length pins) ≡ framed c.frame
  admits = sym (admit_frame (case_table c) (length map) (length pins) c.frame R.check) ∙ rw (le-ltb _ _ m, le-ltb _ _ p)

  pub answer_judged : verdict_numbers r ≡ given (line_in c) c.frame
  unfolding judge_of
  answer_judged = J.answer ∙ rw (admits, R.line)

  accepts : (verdict_numbers r).refusal.no ≡ 0
  accepts = rw answer_judged

  within : {s : ℕ} → s < c.frame → s < (verdict_numbers r).frame
  within l = rw answer_judged l

  pub map_judged : (s : ℕ) → s < length (map_of c.lists) → s < c.frame → get_or map' s 0 ≡ get_or (map_of c.lists) s 0
  map_judged s l h = map_left (case_table c) map pins map' pins' r J accepts s (within h) ∙ R.map s l

  pub pins_judged : (s : ℕ) → s < length (pins_of c.lists) → s < c.frame → get_or pins' s 0 ≡ get_or (pins_of c.lists) s 0
  pins_judged s l h = pins_left (case_table c) map pins map' pins' r J accepts s (within h) ∙ R.pins s l
