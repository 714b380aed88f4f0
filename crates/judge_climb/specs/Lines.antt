-- The lines of the ladder.
use Rattle.std.specs.Prelude.{List, [], ◌∷◌, map, ℕ}
use Rattle.model.specs.Model.{Model}
use Rattle.judge_scan.specs.declared.Line.{Line}
use Rattle.judge_scan.specs.Lines.{line_at}

-- "one line a depth from 1 to 8"
abbrev pub depths : List ℕ
depths = 1 ∷ 2 ∷ 3 ∷ 4 ∷ 5 ∷ 6 ∷ 7 ∷ 8 ∷ []

unfoldable pub lines_of : Model → ℕ → List Line
lines_of M h = map (λ y. line_at M y h) depths
