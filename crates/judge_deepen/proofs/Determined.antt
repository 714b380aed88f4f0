-- The contracts of `deepen` and `deep` determine both lists at exit, and whether the map changed.
use mathlib.Core.Path.{◌≡◌, sym, subst, ◌∙◌}
use mathlib.Core.Bool.{Bool, false}
use mathlib.Core.List.{List}
use mathlib.Core.Logic.{⊎_elim}
use Prim.Native.Nat.{ℕ}
use Rattle.model.specs.Model.{Model, Map}
use Rattle.std.proofs.lemmas.Bool.{cases_Bool}
use Rattle.basics.specs.Over.{Holds, Same}
use Rattle.basics.proofs.Overs.{over_once}
use Rattle.judge_deepen.specs.Reached.{Reached}
use Rattle.judge_deepen.specs.Step.{Shrinking, Step, Deepened}
use Rattle.sets.specs.Word.{words}

module _ (M : Model) (h : ℕ) {map pins map₁ pins₁ map₂ pins₂ : List ℕ} where
  pub deepen_determined : {one two : Bool} (A : Map) → Shrinking M h A → Holds (words M A) h map
      → Deepened M h map pins map₁ pins₁ one → Deepened M h map pins map₂ pins₂ two → (map₁ ≡ map₂) × (pins₁ ≡ pins₂) × (one ≡ two)
  deepen_determined {one} {two} A S held d₁ d₂ = (maps, over_once p.pinned_sets q.pinned_sets, flags)
    where
      p : Step M h A map pins map₁ pins₁ one
      p = d₁ A S held

      q : Step M h A map pins map₂ pins₂ two
      q = d₂ A S held

      maps : map₁ ≡ map₂
      maps = over_once p.next_sets q.next_sets

      to_two : one ≡ false → two ≡ false
      to_two e = q.told (subst (λ (l : List ℕ). Same map l) maps (p.still e))

      to_one : two ≡ false → one ≡ false
      to_one e = p.told (subst (λ (l : List ℕ). Same map l) (sym maps) (q.still e))

      flags : one ≡ two
      flags =
          ⊎_elim (λ e. ⊎_elim (λ f. e ∙ sym f) (λ f. to_one f ∙ sym f) (cases_Bool two))
          (λ e. e ∙ sym (to_two e))
          (cases_Bool one)

  pub deep_determined : (x : ℕ) → Reached M x h map pins map₁ pins₁ → Reached M x h map pins map₂ pins₂ → (map₁ ≡ map₂) × (pins₁ ≡ pins₂)
  deep_determined x p q = (over_once p.available_sets q.available_sets, over_once p.pinned_sets q.pinned_sets)
