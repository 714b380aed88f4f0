-- For the passes alone: one depth further, from whatever map the list holds.
use Rattle.std.specs.Prelude.{◌≡◌, Bool, true, false, List, ℕ, ◌<◌}
use Rattle.basics.specs.Over.{Over, Holds, Same}
use Rattle.model.specs.Model.{Model, Map}
use Rattle.model.specs.Windows.{window}
use Rattle.model.specs.Pins.{pinned}
use Rattle.model.specs.Depths.{next}
use Rattle.sets.specs.Word.{words}

-- on the frame, A is inside the windows and its next map is inside A
pub record Shrinking (M : Model) (h : ℕ) (A : Map) : Type 0 where
  pub inside : (s i : ℕ) → s < h → i < M.rows → A s i ≡ true → window M s i ≡ true
  pub less : (s i : ℕ) → s < h → i < M.rows → next M A s i ≡ true → A s i ≡ true

-- the pins of A, the next map, and whether it is another
pub record Step (M : Model) (h : ℕ) (A : Map) (map pins map' pins' : List ℕ) (changed : Bool) : Type 0 where
  pub pinned_sets : Over (words M (pinned M A)) 0 h pins pins'
  pub next_sets : Over (words M (next M A)) 0 h map map'
  pub still : changed ≡ false → Same map map'
  pub told : Same map map' → changed ≡ false

abbrev pub Deepened : Model → ℕ → List ℕ → List ℕ → List ℕ → List ℕ → Bool → Type 0
Deepened M h map pins map' pins' changed =
    (A : Map) → Shrinking M h A → Holds (words M A) h map → Step M h A map pins map' pins' changed
