-- Squares, line by line.
use mathlib.Core.Path.{◌≡◌, refl, sym, ap, ◌∙◌}
use mathlib.Core.List.{List, [], map}
use mathlib.Core.Logic.{⊎_elim}
use Prim.Native.Nat.{ℕ, suc, ◌+◌, ◌≤◌, ◌<◌}
use native.Mathlib.Nat.{eq-or-lt_of_le, le_of_suc-le-suc}
use native.Mathlib.Omega.{arith}
use lib.Dec.{eqb}
use lib.ListN.{length, get_or, set}
use lib.Seq.{ext_get_or, get_or-set_same, get_or-set_other}
use borrow.Author.Tests.{eqb-true}
use Rattle.std.proofs.lemmas.List.{get_or-map}
use Rattle.basics.specs.Sum.{all}
use Rattle.model.specs.Model.{Model}
use Rattle.basics.proofs.Sums.{all_at}
use Rattle.judge_scan.specs.Lines.{no_line, line_at}
use Rattle.judge_climb.specs.Lines.{depths, lines_of}
use Rattle.judge_climb.specs.Core.{three, to_line, square_of}
use Rattle.table_row.specs.Limits.{most_depths}

-- what holds of the lines below k, and of line k after a store, holds of those below k + 1
module _ {A : Type 0} (d : A) (k : ℕ) (new : List A) (v : A) (P : ℕ → A → Type 0) where
  pub store_more : k < length new → ((y : ℕ) → y < k → P y (get_or new y d)) → P k v → (y : ℕ) → y < k + 1 → P y (get_or (set new k v) y d)
  store_more l f p y g =
      ⊎_elim
      (λ (e : y ≡ k). rw (e, get_or-set_same new k v d l) p)
      (λ (h : y < k). rw (get_or-set_other new k y v d (λ (z : y ≡ k). omega arith)) (f y h))
      (eq-or-lt_of_le (le_of_suc-le-suc (let h : suc y ≤ suc k = omega arith in h)))

depth_at : (y : ℕ) → y < most_depths → get_or depths y 0 ≡ suc y
unfolding all
depth_at y l = eqb-true _ _ (all_at most_depths (λ y. eqb (get_or depths y 0) (suc y)) refl y l)

module _ (M : Model) (h : ℕ) where
  -- the line of depth y + 1 stands at y
  pub lines_at : (y : ℕ) → y < most_depths → get_or (lines_of M h) y no_line ≡ line_at M (suc y) h
  unfolding lines_of
  lines_at y l = get_or-map (λ y. line_at M y h) depths y 0 no_line l ∙ ap (λ (y : ℕ). line_at M y h) (depth_at y l)

  square_at : (y : ℕ) → y < most_depths → get_or (square_of M h) y [] ≡ three (line_at M (suc y) h)
  unfolding square_of lines_of
  square_at y l = get_or-map three (lines_of M h) y no_line [] l ∙ ap three (lines_at y l)

  -- eight lines, each that of its depth, are the square
  pub square_is : (q : List (List ℕ)) → length q ≡ most_depths → ((y : ℕ) → y < most_depths → get_or q y [] ≡ three (line_at M (suc y) h)) → q ≡ square_of M h
  unfolding square_of lines_of
  square_is q e f = ext_get_or [] q (square_of M h) e (λ y l. let k : y < most_depths = rw e at l in f y k ∙ sym (square_at y k))

  -- and told they are the lines
  pub lines_told : map to_line (square_of M h) ≡ lines_of M h
  unfolding square_of lines_of
  lines_told = refl

-- models with the same line at every depth have the same lines
pub lines_ext : (M N : Model) (h : ℕ) → ((y : ℕ) → line_at M y h ≡ line_at N y h) → lines_of M h ≡ lines_of N h
unfolding lines_of
lines_ext M N h e = simp e
