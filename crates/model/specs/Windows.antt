-- Jobs and their windows.
use Rattle.std.specs.Prelude.{ℕ, ◌/◌, ◌%◌, ltb}
use Rattle.model.specs.Model.{Model, Map}

-- "Job k of a row is released at k times T and its window is the D slots from there": the number k of the job that slot t could be in
abbrev pub job_at : Model → ℕ → ℕ → ℕ
job_at M t i = t / M.period i

-- "Depth 1: a row is available in t when t mod T is less than D": slot t is in the window of its job
unfoldable pub window : Model → Map
window M t i = ltb (t % M.period i) (M.deadline i)
