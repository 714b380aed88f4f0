-- For the proofs alone: the same as tests that compute, a sound model and a valid schedule; and a model from three lists.
use Rattle.std.specs.Prelude.{Bool, not, ◌&&◌, ◌||◌, List, ℕ, ◌+◌, ◌*◌, leb, ltb, eqb, length, get_or}
use Rattle.basics.specs.Sum.{sum, bit, all}
use Rattle.model.specs.Model.{Model, Map}
use Rattle.model.specs.Windows.{window}
use Rattle.model.specs.Pins.{size}

-- sequential tasks on m processors, from their T, C and D
abbrev pub sequential : ℕ → List ℕ → List ℕ → List ℕ → Model
sequential m ts cs ds = record {
  rows = length ts;
  period = λ i. get_or ts i 1;
  execution = λ i. get_or cs i 1;
  deadline = λ i. get_or ds i 1;
  weight = λ i. 1;
  capacity = λ t. m;
}

unfoldable pub sound : Model → Bool
sound M =
    all M.rows
    (λ i. leb 1 (M.execution i) && (leb (M.execution i) (M.deadline i) && leb (M.deadline i) (M.period i)))

abbrev pub inside_ok : Model → Map → ℕ → ℕ → Bool
inside_ok M S t i = not (S t i) || window M t i

abbrev pub runs_ok : Model → ℕ → Map → ℕ → ℕ → Bool
runs_ok M H S i j =
    not (ltb (j * M.period i) H)
    || eqb (sum (M.deadline i) (λ o. bit (S (j * M.period i + o) i))) (M.execution i)

abbrev pub fits_ok : Model → Map → ℕ → Bool
fits_ok M S t = leb (size M S t) (M.capacity t)

unfoldable pub valid : Model → ℕ → Map → Bool
valid M H S =
    all H (λ t. all M.rows (inside_ok M S t))
    && (all M.rows (λ i. all H (runs_ok M H S i)) && all H (fits_ok M S))
