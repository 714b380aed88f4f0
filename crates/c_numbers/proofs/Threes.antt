-- What stands where, in three numbers of each member of a list in turn.
use mathlib.Core.Path.{◌≡◌, refl, sym, ap, ◌∙◌}
use mathlib.Core.List.{List, [], ◌∷◌, ◌++◌, map}
use Prim.Native.Nat.{ℕ, zero, suc, ◌+◌, ◌*◌, ◌<◌}
use native.Mathlib.Omega.{arith}
use lib.ListN.{length, get_or, drop}
use lib.Seq.{drop-nil, drop-cons, get_or-drop}
use Rattle.std.specs.List.{flat_map}
use Rattle.c_numbers.specs.Lent.{threes}

module _ {A : Type 0} (f g h : A → ℕ) (d : A) where
  -- what the members' numbers are, end to end
  pub threes_joined : (l : List A) → flat_map (λ x. x) (map (λ a. f a ∷ g a ∷ h a ∷ []) l) ≡ threes f g h l
  unfolding threes
  threes_joined [] = refl
  threes_joined (a ∷ l) = ap (λ (r : List ℕ). f a ∷ g a ∷ h a ∷ r) (threes_joined l)

  pub length_threes : (l : List A) → length (threes f g h l) ≡ 3 * length l
  unfolding threes
  length_threes [] = refl
  length_threes (a ∷ l) = omega (arith, length_threes l)

  pub threes_append : (l m : List A) → threes f g h (l ++ m) ≡ threes f g h l ++ threes f g h m
  unfolding threes
  threes_append [] m = refl
  threes_append (a ∷ l) m = ap (λ (r : List ℕ). f a ∷ g a ∷ h a ∷ r) (threes_append l m)

  drop_threes : (l : List A) (i : ℕ) → drop (3 * i) (threes f g h l) ≡ threes f g h (drop i l)
  unfolding threes
  drop_threes l zero = refl
  drop_threes [] (suc i) = drop-nil (3 * suc i)
  drop_threes (a ∷ l) (suc i) =
      let e : 3 * suc i ≡ suc (suc (suc (3 * i))) = omega arith in
      rw e (drop_threes l i)

  module _ (l : List A) (i : ℕ) (k : i < length l) where
    from : (o : ℕ) → get_or (threes f g h l) (3 * i + o) 0 ≡ get_or (threes f g h (get_or l i d ∷ drop (suc i) l)) o 0
    from o =
        sym (get_or-drop (3 * i) (threes f g h l) o 0)
        ∙ ap (λ (x : List ℕ). get_or x o 0) (drop_threes l i ∙ ap (threes f g h) (drop-cons l i d k))

    -- the numbers of member i
    pub first_at : get_or (threes f g h l) (3 * i) 0 ≡ f (get_or l i d)
    unfolding threes
    first_at =
        let e : 3 * i + 0 ≡ 3 * i = omega arith in
        rw e at (from 0)

    pub second_at : get_or (threes f g h l) (3 * i + 1) 0 ≡ g (get_or l i d)
    unfolding threes
    second_at = from 1

    pub third_at : get_or (threes f g h l) (3 * i + 2) 0 ≡ h (get_or l i d)
    unfolding threes
    third_at = from 2
