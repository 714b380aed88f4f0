-- A map's line: its least failing length, with the work and the supply of that length.
use Rattle.std.specs.Prelude.{◌≡◌, not, cond, List, ℕ, Option, Some, None, is_some, eqb}
use Rattle.model.specs.Model.{Model, Map}
use Rattle.model.specs.Depths.{available}
use Rattle.model.specs.Supply.{supply}
use Rattle.model.specs.Work.{work_due}
use Rattle.model.specs.Failing.{least_failing}
use Rattle.sets.specs.Word.{words}
use Rattle.basics.specs.Over.{Holds}
use Rattle.table.specs.declared.Table.{Table}
use Rattle.table.specs.Meaning.{model_of}
use Rattle.judge_scan.specs.declared.Line.{Line}

-- "three zeros for undecided"
abbrev pub no_line : Line
no_line = record { t = 0; work = 0; supply = 0 }

-- "It gives the least such t, that work, that supply"
unfoldable pub line_of : Model → Map → ℕ → Line
line_of M A h =
    let t = least_failing M A h in
    cond (eqb t 0) no_line (record { t = t; work = work_due M t; supply = supply M A t })

-- the line of depth y
abbrev pub line_at : Model → ℕ → ℕ → Line
line_at M y h = line_of M (available M y) h

-- an answer in this paper's numbers
abbrev pub line_or_zeros : Option Line → Line
line_or_zeros None = no_line
line_or_zeros (Some l) = l

-- the answer of a line: its numbers, and none where it is three zeros
pub record Answered (l : Line) (r : Option Line) : Type 0 where
  pub numbers : line_or_zeros r ≡ l
  pub some : is_some r ≡ not (eqb l.t 0)

-- the line of whatever map the list holds
abbrev pub Scanned : Table → ℕ → List ℕ → Option Line → Type 0
Scanned t h map r = (A : Map) → Holds (words (model_of t) A) h map → Answered (line_of (model_of t) A h) r
