-- The available sets of each depth.
use Rattle.std.specs.Prelude.{Bool, false, not, ◌&&◌, ◌||◌, ℕ, zero, suc, leb}
use Rattle.model.specs.Model.{Model, Map}
use Rattle.model.specs.Windows.{window, job_at}
use Rattle.model.specs.Pins.{pins, pinned}

-- job j of row i is pinned in C slots of its whole window, "later slots included"
unfoldable pub full : Model → Map → ℕ → ℕ → Bool
full M A i j = leb (M.execution i) (pins M A i j (M.deadline i))

-- "a row is available in t when t is in its job's window and either the job is pinned at depth y in t, or it is pinned at depth y in fewer than C slots of its whole window"
unfoldable pub next : Model → Map → Map
next M A t i = window M t i && (pinned M A t i || not (full M A i (job_at M t i)))

-- the available sets at depth y. The papers' depths begin with 1; what stands at 0 is depth 1 too
unfoldable pub available : Model → ℕ → Map
available M zero = window M
available M (suc zero) = window M
available M (suc (suc y)) = next M (available M (suc y))

-- the pinned sets at depth y. There is no depth 0, and nothing is pinned there
unfoldable pub pinned_at : Model → ℕ → Map
pinned_at M zero t i = false
pinned_at M (suc y) t i = pinned M (available M (suc y)) t i
