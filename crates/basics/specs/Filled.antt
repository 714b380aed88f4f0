-- A list whose first places are given by a rule: how public contracts speak of a lent list.
use Rattle.std.specs.Prelude.{List, [], ◌∷◌, ◌++◌, ℕ, zero, suc, drop}

-- f 0, f 1, .., f (h - 1)
unfoldable pub tab : (ℕ → ℕ) → ℕ → List ℕ
tab f zero = []
tab f (suc h) = f 0 ∷ tab (λ k. f (suc k)) h

-- the list with its first h places given by f, and "words from H on unchanged"
unfoldable pub filled : (ℕ → ℕ) → ℕ → List ℕ → List ℕ
filled f h l = tab f h ++ drop h l
