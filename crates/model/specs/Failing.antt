-- The lengths at which more work is due than the usable supply, and the least of them.
use Rattle.std.specs.Prelude.{Bool, cond, ℕ, zero, suc, ◌≤◌, ◌<◌, ltb, eqb}
use Rattle.model.specs.Model.{Model, Map}
use Rattle.model.specs.Supply.{supply}
use Rattle.model.specs.Work.{work_due}

-- "the work due is greater than the usable supply of slots 0 to t - 1"
unfoldable pub fails : Model → Map → ℕ → Bool
fails M A t = ltb (supply M A t) (work_due M t)

-- "the least such t" of 1 to H; 0 where there is none
unfoldable pub least_failing : Model → Map → ℕ → ℕ
least_failing M A zero = 0
least_failing M A (suc H) = let t = least_failing M A H in cond (eqb t 0) (cond (fails M A (suc H)) (suc H) 0) t

-- what the least failing length is
pub record Least (M : Model) (A : Map) (H t : ℕ) : Type 0 where
  pub from : 1 ≤ t
  pub to : t ≤ H
  pub here : supply M A t < work_due M t
  pub before : (s : ℕ) → 1 ≤ s → s < t → work_due M s ≤ supply M A s
