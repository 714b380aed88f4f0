-- What is due.
use Rattle.std.specs.Prelude.{cond, ℕ, ◌+◌, ◌*◌, ◌-◌, ◌/◌, leb}
use Rattle.basics.specs.Sum.{sum}
use Rattle.model.specs.Model.{Model}

-- "floor((t - D)/T) + 1, where the floor is -1 for t below D": how many jobs of row i are due in t slots
unfoldable pub jobs_due : Model → ℕ → ℕ → ℕ
jobs_due M i t = cond (leb (M.deadline i) t) ((t - M.deadline i) / M.period i + 1) 0

-- "Work due in t slots: the sum over rows of C times" that number, each row by its weight
unfoldable pub work_due : Model → ℕ → ℕ
work_due M t = sum M.rows (λ i. M.weight i * (M.execution i * jobs_due M i t))
