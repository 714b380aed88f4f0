-- What the ladder knows at depth y, and how it comes to the whole square.
use mathlib.Core.Path.{◌≡◌, ap, ◌∙◌}
use mathlib.Core.Bool.{Bool, false}
use mathlib.Core.List.{List, []}
use mathlib.Core.Logic.{⊎_elim}
use Prim.Native.Nat.{ℕ, suc, ◌+◌, ◌-◌, ◌≤◌, ◌<◌}
use native.Mathlib.Numerals.{add-one}
use native.Mathlib.Omega.{arith}
use lib.ListN.{length, get_or, set, length-set}
use Rattle.model.specs.Model.{Model}
use Rattle.model.specs.Depths.{available}
use Rattle.std.proofs.lemmas.Bool.{cases_lt}
use Rattle.basics.specs.Over.{Holds}
use Rattle.basics.proofs.Overs.{holds_of}
use Rattle.table.specs.declared.Table.{Table}
use Rattle.table.specs.Meaning.{model_of, Accepted}
use Rattle.table.proofs.Accepted.{sound_model, divides_mod}
use Rattle.judge_deepen.specs.Step.{Deepened}
use Rattle.judge_deepen.specs.Reached.{Reached}
use Rattle.sets.specs.Word.{words}
use Rattle.judge_deepen.proofs.Depth.{depth_step, depth_stop, reached_then, shrinking}
use Rattle.judge_scan.specs.Lines.{line_at}
use Rattle.judge_climb.specs.Core.{three, square_of, Measured, Repeated}
use Rattle.judge_climb.proofs.Squares.{store_more, square_is}
use Rattle.judge_climb.proofs.Same.{line_same}
use Rattle.table_row.specs.Limits.{most_depths}

-- both lists are at depth y, and the lines up to that depth stand
pub record Climbing (t : Table) (h : ℕ) (map₀ pins₀ map pins : List ℕ) (square : List (List ℕ)) (y : ℕ) : Type 0 where
  pub reached : Reached (model_of t) y h map₀ pins₀ map pins
  pub len : length square ≡ most_depths
  pub lines : (k : ℕ) → k < y → get_or square k [] ≡ three (line_at (model_of t) (suc k) h)

module _ {t : Table} {h : ℕ} (a : Accepted t h) {map₀ pins₀ map pins : List ℕ} {square : List (List ℕ)} {y : ℕ} (r : Climbing t h map₀ pins₀ map pins square y)
    (from : 1 ≤ y) (to : y < most_depths) (room : h ≤ length map) {map' pins' : List ℕ} {changed : Bool} (d : Deepened (model_of t) h map pins map' pins' changed) where
  abbrev M : Model
  M = model_of t

  abbrev Depth : ℕ → List ℕ → Type 0
  Depth x map = Holds (words M (available M x)) h map

  held : Depth y map
  held = record { room = room; at = λ s g. r.reached.available_sets.mid s (omega arith) g }

  further : Reached M (y + 1) h map pins map' pins'
  further = depth_step M (sound_model t h a) h (divides_mod t h a) y from held d

  -- one depth further
  pub climbing_more : {v : List ℕ} → Measured t h map' v → Climbing t h map₀ pins₀ map' pins' (set square y v) (y + 1)
  climbing_more {v} f = record {
    reached = reached_then M h r.reached further;
    len = length-set square y v ∙ r.len;
    lines = store_more [] y square v (λ (k : ℕ) (x : List ℕ). x ≡ three (line_at M (suc k) h)) (omega (arith, r.len)) r.lines
        (f (available M (suc y)) (rw (← add-one y) (holds_of further.available_sets room)));
  }

  module _ (e : changed ≡ false) where
    every : (x : ℕ) → y < x → Reached M x h map pins map' pins'
    every = depth_stop M (sound_model t h a) h (divides_mod t h a) y from held d e

    -- the map did not change, so that it still holds the sets of depth y
    quiet : Depth y map'
    quiet =
        let p : y ≡ suc (y - 1) = omega (arith, from) in
        let still = (d (available M (suc (y - 1))) (shrinking M (sound_model t h a) (y - 1) h) (rw p at held)).still e in
        record { room = omega (arith, room, further.available_sets.len); at = λ s g. still.at s ∙ held.at s g }

    same_line_lem : (x : ℕ) → y < x → line_at M y h ≡ line_at M x h
    same_line_lem x g =
        line_same M (sound_model t h a) h (divides_mod t h a) (available M y) (available M x) quiet
        (holds_of (every x g).available_sets room)

    -- nothing changed: the last line is that of every later depth
    pub climbing_stop : {q : List (List ℕ)} → Repeated y most_depths square q → (q ≡ square_of M h) × Reached M most_depths h map₀ pins₀ map' pins'
    climbing_stop {q} p =
        (square_is M h q p.len line, reached_then M h r.reached (every most_depths to))
      where
        before : (k : ℕ) → y ≤ k → get_or square (y - 1) [] ≡ three (line_at M (suc k) h)
        before k g =
            r.lines (y - 1) (omega (arith, from))
            ∙ ap (λ (x : ℕ). three (line_at M x h)) (let z : suc (y - 1) ≡ y = omega (arith, from) in z)
            ∙ ap three (same_line_lem (suc k) (omega arith))

        line : (k : ℕ) → k < most_depths → get_or q k [] ≡ three (line_at M (suc k) h)
        line k g = ⊎_elim (λ b. p.low k b ∙ r.lines k b) (λ b. p.high k b g ∙ before k b) (cases_lt k y)
