-- What a table means: its rows, and for each slot the cores that serve it. For a table of sequential tasks each weight is 1 and each capacity m.
use Rattle.std.specs.Prelude.{◌≡◌, Bool, ℕ, ◌+◌, ◌≤◌, ◌<◌}
use Rattle.std.specs.Int.{◌∣◌}

pub record Model : Type 0 where
  -- the row count; rows are numbered from 0
  pub rows : ℕ
  -- T, C and D of a row
  pub period : ℕ → ℕ
  pub execution : ℕ → ℕ
  pub deadline : ℕ → ℕ
  -- how many cores a job of the row takes in a slot in which it runs
  pub weight : ℕ → ℕ
  -- how many cores serve a slot
  pub capacity : ℕ → ℕ

-- "D is 1 to T, C is 1 to D"
pub record Sound (M : Model) : Type 0 where
  pub some : (i : ℕ) → i < M.rows → 1 ≤ M.execution i
  pub room : (i : ℕ) → i < M.rows → M.execution i ≤ M.deadline i
  pub apart : (i : ℕ) → i < M.rows → M.deadline i ≤ M.period i

-- "The frame H is the least common multiple of the periods": every period divides it, and what serves a slot repeats with it
pub record Frame (M : Model) (H : ℕ) : Type 0 where
  pub some : 0 < H
  pub whole : (i : ℕ) → i < M.rows → M.period i ∣ H
  pub again : (t : ℕ) → M.capacity (H + t) ≡ M.capacity t

-- which rows, of each slot: Map t i asks of slot t and row i
abbrev pub Map : Type 0
Map = ℕ → ℕ → Bool
