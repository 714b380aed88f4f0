-- From one depth to the next, and on to every later one where nothing changed.
use mathlib.Core.Path.{◌≡◌, sym, ap, ◌∙◌}
use mathlib.Core.Bool.{Bool, false}
use mathlib.Core.List.{List}
use Prim.Native.Nat.{ℕ, zero, suc, ◌+◌, ◌-◌, ◌%◌, ◌≤◌, ◌<◌}
use native.Mathlib.Nat.{not-suc-le-zero}
use native.Mathlib.Numerals.{add-one}
use native.Mathlib.Omega.{arith}
use Rattle.model.specs.Model.{Model, Sound}
use Rattle.model.specs.Pins.{pinned}
use Rattle.model.specs.Depths.{next, available, pinned_at}
use Rattle.model.proofs.Better.{available_window}
use Rattle.model.proofs.Shrink.{available_shrinks}
use Rattle.model.proofs.Stop.{Agree, stop, stop_pins}
use Rattle.sets.specs.Word.{member, words}
use Rattle.sets.proofs.Words.{word_ext, word_none, member_word}
use Rattle.basics.specs.Over.{Over, Holds}
use Rattle.basics.proofs.Overs.{over_ext, over_then}
use Rattle.judge_deepen.specs.Reached.{Reached}
use Rattle.judge_deepen.specs.Step.{Shrinking, Step, Deepened}

-- a depth's sets are inside the windows, and the next depth's are inside them
pub shrinking : (M : Model) → Sound M → (y h : ℕ) → Shrinking M h (available M (suc y))
unfolding available
shrinking M G y h = record {
  inside = λ s i l k e. available_window M (suc y) s i e;
  less = λ s i l k e. available_shrinks M G (suc y) s i k e;
}

-- the two lists at depth y + 2, by what is pinned at depth y + 1
reach : (M : Model) (h y : ℕ) {map pins map' pins' : List ℕ} → Over (words M (available M (suc (suc y)))) 0 h map map'
    → Over (words M (pinned M (available M (suc y)))) 0 h pins pins' → Reached M (suc (suc y)) h map pins map' pins'
unfolding pinned_at
reach M h y p q = record { available_sets = p; pinned_sets = rw (let e : suc (suc y) - 1 ≡ suc y = omega arith in e) q }

module _ (M : Model) (G : Sound M) (h : ℕ) (W : (i : ℕ) → i < M.rows → h % M.period i ≡ 0) where
  module _ (y : ℕ) {map pins map' pins' : List ℕ} {changed : Bool} (held : Holds (words M (available M (suc y))) h map) (d : Deepened M h map pins map' pins' changed) where
    step : Step M h (available M (suc y)) map pins map' pins' changed
    step = d (available M (suc y)) (shrinking M G y h) held

    further : Reached M (suc (suc y)) h map pins map' pins'
    unfolding available
    further = reach M h y step.next_sets step.pinned_sets

    -- a map that did not change agrees with the depth before
    quiet : changed ≡ false → Agree M h (available M (suc (suc y))) (available M (suc y))
    unfolding available
    quiet e s i l k =
        sym (member_word M.rows i (next M (available M (suc y)) s) k)
        ∙ ap (member i) (sym (step.next_sets.mid s (omega arith) l) ∙ (step.still e).at s ∙ held.at s l)
        ∙ member_word M.rows i (available M (suc y) s) k

    stays : changed ≡ false → (k : ℕ) → Reached M (suc (suc (y + k))) h map pins map' pins'
    stays e k =
        reach M h (y + k)
        (over_ext further.available_sets (λ s z l. word_ext M.rows (λ i j.
        quiet e s i l j ∙ sym (ap (λ (n : ℕ). available M (suc n) s i) (let q : suc (y + k) ≡ y + suc k = omega arith in q) ∙ stop M G h W y (quiet e) (suc k) s i l j))))
        (over_ext step.pinned_sets (λ s z l. word_ext M.rows (λ i j. sym (stop_pins M G h W y (quiet e) k s i l j))))

  -- one depth further: the pinned sets of depth y, the available sets of depth y + 1
  pub depth_step : (y : ℕ) {map pins map' pins' : List ℕ} {changed : Bool} → 1 ≤ y → Holds (words M (available M y)) h map → Deepened M h map pins map' pins' changed
      → Reached M (y + 1) h map pins map' pins'
  depth_step zero l held d = absurd (not-suc-le-zero l)
  depth_step (suc y) l held d = rw (add-one (suc y)) (further y held d)

  -- where nothing changed, the lists are those of every later depth
  pub depth_stop : (y : ℕ) {map pins map' pins' : List ℕ} {changed : Bool} → 1 ≤ y → Holds (words M (available M y)) h map → Deepened M h map pins map' pins' changed
      → changed ≡ false → (x : ℕ) → y < x → Reached M x h map pins map' pins'
  depth_stop zero l held d e x g = absurd (not-suc-le-zero l)
  depth_stop (suc y) l held d e x g = rw (let q : x ≡ suc (suc (y + (x - suc (suc y)))) = omega arith in q) (stays y held d e (x - suc (suc y)))

module _ (M : Model) (h : ℕ) where
  -- depth 1, with no pins
  pub reached_first : {map pins map' pins' : List ℕ} → Over (words M (available M 1)) 0 h map map' → Over (λ s. 0) 0 h pins pins' → Reached M 1 h map pins map' pins'
  unfolding pinned_at
  reached_first p q = record { available_sets = p; pinned_sets = over_ext q (λ s z l. sym (word_none M.rows)) }

  -- one after another
  pub reached_then : {y x : ℕ} {a b c p q r : List ℕ} → Reached M y h a p b q → Reached M x h b q c r → Reached M x h a p c r
  reached_then u v = record {
    available_sets = over_then u.available_sets v.available_sets;
    pinned_sets = over_then u.pinned_sets v.pinned_sets;
  }
