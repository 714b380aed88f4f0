-- For the proofs alone: a line at a place of the output, and the line by the case of a verdict.
use Rattle.std.specs.Prelude.{List, ℕ, ◌≤◌, length, Result, Ok, Err}
use Rattle.refusal.specs.declared.Refusal.{Refusal}
use Rattle.judge.specs.declared.Verdict.{Verdict}
use Rattle.judge.specs.declared.Verdict.TheVariants.{Infeasible, Undecided}
use Rattle.text_decimal.specs.declared.Output.{Output}
use Rattle.text_decimal.specs.Put.{Written}
use Rattle.text_lines.specs.Line.{infeasible_line, undecided_line}

-- the line of a table with a number, by the case of its verdict; a refusal, which no table of an accepted file gets, has the numbers 0
abbrev pub verdict_line : ℕ → Result Verdict Refusal → List ℕ
verdict_line number (Ok (Infeasible t work supply h)) = infeasible_line number t work supply
verdict_line number (Ok (Undecided h)) = undecided_line number h
verdict_line number (Err r) = undecided_line number 0

-- a text in an output that has room for it, of at most so many bytes
pub record Told (most : ℕ) (o : Output) (text : List ℕ) (o' : Output) : Type 0 where
  pub written : Written o text o'
  pub short : length text ≤ most
