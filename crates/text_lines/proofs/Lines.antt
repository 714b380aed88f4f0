-- The length of each line, one part after the other, and the line of a verdict.
use mathlib.Core.Path.{◌≡◌, refl, sym, ap, ap₂, ◌∙◌}
use mathlib.Core.Bool.{not}
use mathlib.Core.List.{List}
use Prim.Native.Nat.{ℕ, ◌^◌, ◌≤◌, ◌<◌}
use native.Mathlib.Omega.{arith}
use lib.Dec.{eqb}
use lib.ListN.{length, length-append}
use borrow.Author.Tests.{not-true}
use Rattle.table.specs.declared.Table.{Table}
use Rattle.table_row.specs.Limits.{most_slots}
use Rattle.judge.specs.declared.Verdict.{Verdict}
use Rattle.judge.specs.declared.Verdict.TheVariants.{Infeasible, Undecided}
use Rattle.judge.specs.Judge.{numbers, infeasible, judge_of, Judged}
use Rattle.refusal.specs.declared.Refusal.{Refusal}
use Rattle.refusal.specs.Refusal.{Numbered}
use Rattle.refusal.specs.Told.{number}
use Rattle.std.specs.Prelude.{Result, Ok, Err}
use Rattle.text_decimal.proofs.Decimals.{decimal_32, decimal_16, decimal_8}
use Rattle.text_lines.specs.Line.{longest, infeasible_line, undecided_line, refused_line, table_line}
use Rattle.text_lines.specs.Told.{verdict_line}

-- a line has room for a number of 16 bits and three of 32, for one of 16 and one of 32, and for three of 8
pub infeasible_short : (number t work supply : ℕ) → number < 2 ^ 16 → t < 2 ^ 32 → work < 2 ^ 32 → supply < 2 ^ 32 → length (infeasible_line number t work supply) ≤ longest
unfolding infeasible_line
infeasible_short number t work supply h p q r =
    simp length-append (omega (arith, decimal_16 number h, decimal_32 t p, decimal_32 work q, decimal_32 supply r))

pub undecided_short : (number h : ℕ) → number < 2 ^ 16 → h < 2 ^ 32 → length (undecided_line number h) ≤ longest
unfolding undecided_line
undecided_short number h p q = simp length-append (omega (arith, decimal_16 number p, decimal_32 h q))

pub refused_short : (r : Numbered) → r.no < 2 ^ 8 → r.entry < 2 ^ 8 → r.row < 2 ^ 8 → length (refused_line r) ≤ longest
unfolding refused_line
refused_short r p q s = simp length-append (omega (arith, decimal_8 r.no p, decimal_8 r.entry q, decimal_8 r.row s))

-- the line by the case of a verdict is the line by its numbers
by_case : (number : ℕ) (v : Result Verdict Refusal) → infeasible v ≡ not (eqb (numbers v).t 0) → verdict_line number v ≡ table_line number (numbers v)
unfolding table_line
by_case number (Ok (Infeasible t work supply h)) e = rw (not-true (eqb t 0) (sym e))
by_case number (Ok (Undecided h)) e = refl
by_case number (Err r) e = refl

pub verdict_line_lem : (number : ℕ) {t : Table} {map pins map' pins' : List ℕ} {v : Result Verdict Refusal} → Judged t map pins map' pins' v
    → length map ≡ most_slots → length pins ≡ most_slots → verdict_line number v ≡ table_line number (judge_of t most_slots most_slots)
verdict_line_lem number {t} {map} {pins} {v = v} j p q =
    by_case number v j.case ∙ ap (table_line number) (j.answer ∙ ap₂ (judge_of t) p q)
