-- The ladder's answer, and its contract.
use Rattle.std.specs.Prelude.{◌≡◌, cond, List, ℕ, eqb, length, replicate}
use Rattle.refusal.specs.Refusal.{Numbered}
use Rattle.refusal.specs.Told.{told_in}
use Rattle.table.specs.declared.Table.{Table}
use Rattle.table_row.specs.Limits.{most_depths}
use Rattle.table.specs.Meaning.{model_of}
use Rattle.judge_scan.specs.declared.Line.{Line}
use Rattle.judge_scan.specs.Lines.{no_line}
use Rattle.judge_admit.specs.Admit.{admit_of}
use Rattle.judge.specs.After.{map_after, pins_after}
use Rattle.judge_climb.specs.Lines.{lines_of}
use Rattle.judge_ladder.specs.declared.Square.{Square}

-- the numbers of an answer: a refusal, none where its number is 0, and a line for each depth from 1 to 8
pub record Numbers : Type 0 where
  pub refusal : Numbered
  pub lines : List Line

-- a square of zeros
abbrev pub no_lines : List Line
no_lines = replicate most_depths no_line

-- this paper's numbers of an answer
abbrev pub square : Square → Numbers
square r = record { refusal = told_in r.refusal; lines = r.lines }

-- the lines; "The table's own depth is checked and then not used", and "All other numbers of a refused answer are 0: the ladder's square"
unfoldable pub ladder_of : Table → ℕ → ℕ → Numbers
ladder_of t a b =
    let c = admit_of t a b in
    record {
      refusal = c.refusal;
      lines = cond (eqb c.refusal.no 0) (lines_of (model_of t) c.frame) no_lines;
    }

-- the ladder's contract: the answer, and "Both lists end as the judge leaves them at depth 8"
pub record Laddered (t : Table) (map pins map' pins' : List ℕ) (r : Square) : Type 0 where
  pub answer : square r ≡ ladder_of t (length map) (length pins)
  pub map_is : map' ≡ map_after t most_depths map pins
  pub pins_is : pins' ≡ pins_after t most_depths map pins
