-- The words of a line, in bytes, each with the single spaces around it.
use Rattle.std.specs.Prelude.{List, [], ◌∷◌, ℕ}

-- `TABLE` and a space
abbrev pub table_word : List ℕ
table_word = 84 ∷ 65 ∷ 66 ∷ 76 ∷ 69 ∷ 32 ∷ []

-- `INFEASIBLE` between spaces
abbrev pub infeasible_word : List ℕ
infeasible_word = 32 ∷ 73 ∷ 78 ∷ 70 ∷ 69 ∷ 65 ∷ 83 ∷ 73 ∷ 66 ∷ 76 ∷ 69 ∷ 32 ∷ []

-- `UNDECIDED` between spaces
abbrev pub undecided_word : List ℕ
undecided_word = 32 ∷ 85 ∷ 78 ∷ 68 ∷ 69 ∷ 67 ∷ 73 ∷ 68 ∷ 69 ∷ 68 ∷ 32 ∷ []

-- `REFUSED` and a space
abbrev pub refused_word : List ℕ
refused_word = 82 ∷ 69 ∷ 70 ∷ 85 ∷ 83 ∷ 69 ∷ 68 ∷ 32 ∷ []

abbrev pub space : List ℕ
space = 32 ∷ []

abbrev pub newline : List ℕ
newline = 10 ∷ []
