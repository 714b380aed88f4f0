-- What the demands are stated with: the map at a depth, a length that fails, and what goes with infeasible.
use Rattle.std.specs.Prelude.{◌≡◌, ℕ, ◌≤◌, ◌<◌, true, List, get_or}
use Rattle.model.specs.Model.{Map}
use Rattle.model.specs.Depths.{available}
use Rattle.model.specs.Supply.{supply}
use Rattle.model.specs.Work.{work_due}
use Rattle.model.specs.Failing.{Least}
use Rattle.sets.specs.Word.{member}
use Rattle.table.specs.declared.Table.{Table}
use Rattle.table.specs.Meaning.{model_of}
use Rattle.judge_scan.specs.declared.Line.{Line}

-- the available sets of the table at depth x
abbrev pub map_at : Table → ℕ → Map
map_at t x = available (model_of t) x

-- "for some t in 1 to H the work due is greater than the usable supply of slots 0 to t - 1", at depth x
abbrev pub Fails : Table → ℕ → ℕ → Type 0
Fails t x h = (s : ℕ) × (1 ≤ s) × (s ≤ h) × (supply (model_of t) (map_at t x) s < work_due (model_of t) s)

-- "It gives the least such t, that work, that supply"
pub record Shown (t : Table) (x h : ℕ) (l : Line) : Type 0 where
  pub least : Least (model_of t) (map_at t x) h l.t
  pub work : l.work ≡ work_due (model_of t) l.t
  pub supply : l.supply ≡ supply (model_of t) (map_at t x) l.t

-- in every slot of the frame the schedule runs only rows whose bit is set in that slot's word
abbrev pub InWords : Table → ℕ → Map → List ℕ → Type 0
InWords t h S words = (s i : ℕ) → s < h → i < t.count → S s i ≡ true → member i (get_or words s 0) ≡ true
