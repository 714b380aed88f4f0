-- The pinned sets of an available map A, going through slots from 0 up.
use Rattle.std.specs.Prelude.{Bool, ◌&&◌, ℕ, zero, suc, ◌+◌, ◌*◌, ◌%◌, leb, ltb}
use Rattle.basics.specs.Sum.{sum, bit}
use Rattle.model.specs.Model.{Model, Map}
use Rattle.model.specs.Windows.{job_at}

-- the size of a slot's set: its rows, each by its weight
unfoldable pub size : Model → Map → ℕ → ℕ
size M A t = sum M.rows (λ i. M.weight i * bit (A t i))

-- "a row is pinned in t when it is available there, the available set of that slot has at most m rows, and its job was pinned in fewer than C earlier slots" (k of them)
unfoldable pub pin : Model → Map → ℕ → ℕ → ℕ → Bool
pin M A i t k = A t i && (leb (size M A t) (M.capacity t) && ltb k (M.execution i))

-- in how many of the first o slots from its release job j of row i is pinned
unfoldable pub pins : Model → Map → ℕ → ℕ → ℕ → ℕ
pins M A i j zero = 0
pins M A i j (suc o) = let k = pins M A i j o in k + bit (pin M A i (j * M.period i + o) k)

-- the pinned sets
unfoldable pub pinned : Model → Map → Map
pinned M A t i = pin M A i t (pins M A i (job_at M t i) (t % M.period i))
