-- A valid schedule of one frame: first releases together, then one each period.
use Rattle.std.specs.Prelude.{◌≡◌, true, ℕ, ◌+◌, ◌*◌, ◌≤◌, ◌<◌}
use Rattle.basics.specs.Sum.{sum, bit}
use Rattle.model.specs.Model.{Model, Map}
use Rattle.model.specs.Windows.{window}
use Rattle.model.specs.Pins.{size}

-- S t i says that row i's job runs in slot t (once a slot at most, since it is said or not)
pub record Valid (M : Model) (H : ℕ) (S : Map) : Type 0 where
  -- a job runs inside its window only
  pub inside : (t i : ℕ) → t < H → i < M.rows → S t i ≡ true → window M t i ≡ true
  -- every job of the frame runs exactly its execution time there
  pub runs : (i j : ℕ) → i < M.rows → j * M.period i < H → sum (M.deadline i) (λ o. bit (S (j * M.period i + o) i)) ≡ M.execution i
  -- no slot is over its capacity
  pub fits : (t : ℕ) → t < H → size M S t ≤ M.capacity t

-- in every slot of the frame S runs only rows of A's set
unfoldable pub Within : Model → ℕ → Map → Map → Type 0
Within M H S A = (t i : ℕ) → t < H → i < M.rows → S t i ≡ true → A t i ≡ true
