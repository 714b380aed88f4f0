-- For the passes alone: "an eight by three square of numbers", worked out for an accepted table.
use Rattle.std.specs.Prelude.{◌≡◌, List, [], ◌∷◌, map, ℕ, ◌-◌, ◌≤◌, ◌<◌, length, get_or}
use Rattle.model.specs.Model.{Model, Map}
use Rattle.basics.specs.Over.{Holds}
use Rattle.table.specs.declared.Table.{Table}
use Rattle.table_row.specs.Limits.{most_depths}
use Rattle.table.specs.Meaning.{model_of}
use Rattle.judge_deepen.specs.Reached.{Reached}
use Rattle.sets.specs.Word.{words}
use Rattle.judge_scan.specs.declared.Line.{Line}
use Rattle.judge_scan.specs.Lines.{line_of, line_at}
use Rattle.judge_climb.specs.Lines.{lines_of}

-- "t, work and supply"
abbrev pub three : Line → List ℕ
three l = l.t ∷ l.work ∷ l.supply ∷ []

abbrev pub to_line : List ℕ → Line
to_line a = record { t = get_or a 0 0; work = get_or a 1 0; supply = get_or a 2 0 }

unfoldable pub square_of : Model → ℕ → List (List ℕ)
square_of M h = map three (lines_of M h)

-- the three numbers of whatever map the list holds
abbrev pub Measured : Table → ℕ → List ℕ → List ℕ → Type 0
Measured t h map r = (A : Map) → Holds (words (model_of t) A) h map → r ≡ three (line_of (model_of t) A h)

-- both lists at depth 1, and the numbers of that depth
pub record Begun (t : Table) (h : ℕ) (map pins map' pins' : List ℕ) (r : List ℕ) : Type 0 where
  pub reached : Reached (model_of t) 1 h map pins map' pins'
  pub line : r ≡ three (line_at (model_of t) 1 h)

-- from a place on, up to another, every line is the one before that place
pub record Repeated (from to : ℕ) (old new : List (List ℕ)) : Type 0 where
  pub len : length new ≡ most_depths
  pub low : (k : ℕ) → k < from → get_or new k [] ≡ get_or old k []
  pub high : (k : ℕ) → from ≤ k → k < to → get_or new k [] ≡ get_or old (from - 1) []

-- the square, and both lists at depth 8
pub record Climbed (t : Table) (h : ℕ) (map pins map' pins' : List ℕ) (r : List (List ℕ)) : Type 0 where
  pub square : r ≡ square_of (model_of t) h
  pub reached : Reached (model_of t) most_depths h map pins map' pins'
