-- For the passes alone: what they work out for an accepted table.
use Rattle.std.specs.Prelude.{List, ℕ, Option, Some, None}
use Rattle.table.specs.declared.Table.{Table}
use Rattle.table.specs.Meaning.{model_of}
use Rattle.judge_deepen.specs.Reached.{Reached}
use Rattle.judge_scan.specs.declared.Line.{Line}
use Rattle.judge_scan.specs.Lines.{line_at, Answered}
use Rattle.judge.specs.declared.Verdict.{Verdict}
use Rattle.judge.specs.declared.Verdict.TheVariants.{Infeasible, Undecided}

-- both lists, and the map's line
pub record Lined (t : Table) (h : ℕ) (map pins map' pins' : List ℕ) (r : Option Line) : Type 0 where
  pub reached : Reached (model_of t) t.depth h map pins map' pins'
  pub line : Answered (line_at (model_of t) t.depth h) r

-- the verdict of a line on the frame h
abbrev pub verdict_of : Option Line → ℕ → Verdict
verdict_of None h = Undecided h
verdict_of (Some l) h = Infeasible l.t l.work l.supply h
