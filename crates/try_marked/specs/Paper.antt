-- "The marked tables are kept as one constant table, with one statement over all of it"; each with what is said of it.
use Rattle.std.specs.Prelude.{◌≡◌, true, List, [], ◌∷◌, get_or}
use Rattle.basics.specs.Sum.{all}
use Rattle.try_marked.specs.declared.Case.{Case}
use Rattle.try_marked.specs.Case.{row, infeasible_at, undecided, with_lists, no_case, right}

unfoldable pub paper : List Case
paper =
    -- "m 2, rows (2,1,1) (3,2,2) (4,2,3), x 1: H 12, infeasible at 8, work 14, supply 13"
    infeasible_at 2 1 (row 2 1 1 ∷ row 3 2 2 ∷ row 4 2 3 ∷ []) 12 8 14 13
    -- "The same with (8,1,6) added, x 1: undecided, H 24"
    ∷ undecided 2 1 (row 2 1 1 ∷ row 3 2 2 ∷ row 4 2 3 ∷ row 8 1 6 ∷ []) 24
    -- "The same at x 2: infeasible at 8, work 15, supply 14"
    ∷ infeasible_at 2 2 (row 2 1 1 ∷ row 3 2 2 ∷ row 4 2 3 ∷ row 8 1 6 ∷ []) 24 8 15 14
    -- "m 1, (1,1,1): undecided, H 1"
    ∷ undecided 1 1 (row 1 1 1 ∷ []) 1
    -- "m 2, three rows (1,1,1): infeasible at 1, 3 against 2"
    ∷ infeasible_at 2 1 (row 1 1 1 ∷ row 1 1 1 ∷ row 1 1 1 ∷ []) 1 1 3 2
    -- "m 1, two rows (2,1,1): infeasible at 1, 2 against 1"
    ∷ infeasible_at 1 1 (row 2 1 1 ∷ row 2 1 1 ∷ []) 2 1 2 1
    -- "m 2, three rows (3,2,3): undecided"
    ∷ undecided 2 1 (row 3 2 3 ∷ row 3 2 3 ∷ row 3 2 3 ∷ []) 3
    -- "m 2, three rows (2,2,2): infeasible at 2, 6 against 4"
    ∷ infeasible_at 2 1 (row 2 2 2 ∷ row 2 2 2 ∷ row 2 2 2 ∷ []) 2 2 6 4
    -- "m 1, (4,1,3), x 1: map 1, 1, 1, 0"
    ∷ with_lists 1 1 (row 4 1 3 ∷ []) (1 ∷ 1 ∷ 1 ∷ 0 ∷ []) (0 ∷ 0 ∷ 0 ∷ 0 ∷ [])
    -- "The same at x 2: map 1, 0, 0, 0; pins 1, 0, 0, 0"
    ∷ with_lists 1 2 (row 4 1 3 ∷ []) (1 ∷ 0 ∷ 0 ∷ 0 ∷ []) (1 ∷ 0 ∷ 0 ∷ 0 ∷ [])
    ∷ []

-- the constant is the paper's, and the rules give the answer of every entry
pub record Kept (cases : List Case) : Type 0 where
  pub entries : cases ≡ paper
  pub rules : all 10 (λ i. right (get_or cases i no_case)) ≡ true
