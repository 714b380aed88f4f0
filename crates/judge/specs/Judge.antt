-- The judge's answer in this paper's numbers, and its contract.
use Rattle.std.specs.Prelude.{◌≡◌, Bool, true, false, not, cond, List, ℕ, Result, Ok, Err, eqb, length}
use Rattle.table.specs.declared.Table.{Table}
use Rattle.refusal.specs.declared.Refusal.{Refusal}
use Rattle.refusal.specs.Refusal.{Numbered, none}
use Rattle.refusal.specs.Told.{told}
use Rattle.table.specs.Meaning.{model_of}
use Rattle.judge_scan.specs.declared.Line.{Line}
use Rattle.judge_scan.specs.Lines.{line_at, no_line}
use Rattle.judge.specs.declared.Verdict.{Verdict}
use Rattle.judge.specs.declared.Verdict.TheVariants.{Infeasible, Undecided}
use Rattle.judge_admit.specs.Admit.{admit_of}
use Rattle.judge.specs.After.{map_after, pins_after}

-- the numbers of an answer
pub record Numbers : Type 0 where
  pub refusal : Numbered
  pub t : ℕ
  pub work : ℕ
  pub supply : ℕ
  pub frame : ℕ

-- the length, work and supply among them
abbrev pub line_in : Numbers → Line
line_in n = record { t = n.t; work = n.work; supply = n.supply }

-- the numbers of a map's line on the frame h
abbrev pub given : Line → ℕ → Numbers
given l h = record { refusal = none; t = l.t; work = l.work; supply = l.supply; frame = h }

-- "All other numbers of a refused answer are 0"
abbrev pub withheld : Numbered → Numbers
withheld r = record { refusal = r; t = 0; work = 0; supply = 0; frame = 0 }

-- this paper's numbers for each case of the answer
abbrev pub numbers : Result Verdict Refusal → Numbers
numbers (Ok (Infeasible t work supply h)) = given (record { t = t; work = work; supply = supply }) h
numbers (Ok (Undecided h)) = given no_line h
numbers (Err r) = withheld (told r)

abbrev pub infeasible : Result Verdict Refusal → Bool
infeasible (Ok (Infeasible t work supply h)) = true
infeasible (Ok (Undecided h)) = false
infeasible (Err r) = false

-- "Infeasible when for some t in 1 to H the work due is greater than the usable supply of slots 0 to t - 1. It gives the least such t, that work, that supply, and H. Otherwise undecided, with H and zeros."
unfoldable pub judge_of : Table → ℕ → ℕ → Numbers
judge_of t a b =
    let c = admit_of t a b in
    cond (eqb c.refusal.no 0)
    (given (line_at (model_of t) t.depth c.frame) c.frame)
    (withheld c.refusal)

-- the judge's contract: the answer, and both lists as it leaves them
pub record Judged (t : Table) (map pins map' pins' : List ℕ) (r : Result Verdict Refusal) : Type 0 where
  pub answer : numbers r ≡ judge_of t (length map) (length pins)
  -- an answer of infeasible has a length, and only such a one
  pub case : infeasible r ≡ not (eqb (numbers r).t 0)
  pub map_is : map' ≡ map_after t t.depth map pins
  pub pins_is : pins' ≡ pins_after t t.depth map pins
