-- Tests that compute, and what they tell. Assumes nothing.
use mathlib.Core.Path.{◌≡◌}
use mathlib.Core.Bool.{Bool, true, not, ◌&&◌, ◌||◌}
use Prim.Native.Nat.{ℕ}
use native.Mathlib.Nat.{lt_of_le_of_lt, le-mul_of_pos_right, le_trans}
use lib.Dec.{leb}
use borrow.Author.Tests.{leb-true, eqb-true, lt-ltb}
use Rattle.basics.specs.Sum.{all}
use Rattle.model.specs.Model.{Model, Sound, Map}
use Rattle.model.specs.Windows.{window}
use Rattle.model.specs.Schedule.{Valid}
use Rattle.model.specs.Tests.{sound, valid, inside_ok, runs_ok, fits_ok}
use Rattle.basics.proofs.Bools.{and_left, and_right}
use Rattle.basics.proofs.Sums.{all_at}

pub sound_ok : (M : Model) → sound M ≡ true → Sound M
unfolding sound
sound_ok M e =
    let at = all_at M.rows _ e in
    record {
      some = λ i k. leb-true _ _ (and_left _ _ (at i k));
      room = λ i k. leb-true _ _ (and_left _ _ (and_right (leb 1 (M.execution i)) _ (at i k)));
      apart = λ i k. leb-true _ _ (and_right (leb (M.execution i) (M.deadline i)) _ (and_right (leb 1 (M.execution i)) _ (at i k)));
    }

-- a guarded test
guarded : {a : Bool} (b : Bool) → not a || b ≡ true → a ≡ true → b ≡ true
guarded {a} b e p = rw p at e

pub valid_ok : (M : Model) → Sound M → (H : ℕ) (S : Map) → valid M H S ≡ true → Valid M H S
unfolding valid
valid_ok M G H S e =
    let slots = all H (λ t. all M.rows (inside_ok M S t)) in
    let jobs = all M.rows (λ i. all H (runs_ok M H S i)) in
    let rooms = all H (fits_ok M S) in
    let rest = and_right slots (jobs && rooms) e in
    record {
      inside = λ t i l k s.
          guarded (window M t i)
          (all_at M.rows (inside_ok M S t) (all_at H (λ t. all M.rows (inside_ok M S t)) (and_left slots (jobs && rooms) e) t l) i k) s;
      runs = λ i j k l.
          let short = lt_of_le_of_lt (le-mul_of_pos_right j (le_trans (G.some i k) (le_trans (G.room i k) (G.apart i k)))) l in
          eqb-true _ _
          (guarded _ (all_at H (runs_ok M H S i) (all_at M.rows (λ i. all H (runs_ok M H S i)) (and_left jobs rooms rest) i k) j short) (lt-ltb _ _ l));
      fits = λ t l. leb-true _ _ (all_at H (fits_ok M S) (and_right jobs rooms rest) t l);
    }
