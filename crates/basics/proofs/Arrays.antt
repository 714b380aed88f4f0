-- The arrays that `from_fn` and `map` make, where each call gives a function of what it gets and leaves the closure as it was.
use Rattle.std.proofs.Common.{◌≡◌, ℕ, zero, suc, ◌+◌, ◌<◌, List, map, length, get_or, Some, slice_get, sym, ap, ◌∙◌, arith, zero-add, add-zero}
use Rattle.std.specs.List.{range_with_len}
use Rattle.std.specs.Array.{IsFromFnResult, IsFromFnResultFrom, IsMapOf, MapsFrom}
use Rattle.std.proofs.lemmas.List.{ext_get_or, get_or-map, length-map}
use Rattle.std.proofs.lemmas.List.FromFn.{fill_by_all}
use Rattle.std.proofs.lemmas.Option.{slice_get-get_or}
use denote.Param.Members.{Mut, Called}

module _ {F B : Type 0} (g : Mut F (ℕ × Unit {0}) B) (h : ℕ → B) (f : F)
    (step : (i : ℕ) (y : B) (q : F) → Called g f (i, tt) y q → (y ≡ h i) × (q ≡ f)) where
  made_at : (d : B) (ys : List B) (i n : ℕ) → IsFromFnResultFrom g f ys i n → (k : ℕ) → k < n → get_or ys (i + k) d ≡ h (i + k)
  made_at d ys i zero e k l = absurd (omega arith)
  made_at d ys i (suc n) (q, y, at, call, rest) zero l = simp add-zero (at.1 d ∙ (step i y q call).0)
  made_at d ys i (suc n) (q, y, at, call, rest) (suc k) l =
      let e : i + suc k ≡ i + 1 + k = omega arith in
      rw e (made_at d ys (i + 1) n (rw (step i y q call).1 at rest) k (omega arith))

  module _ (ys : List B) (n : ℕ) (e : IsFromFnResult g f ys n) where
    pub from_fn_made : ys ≡ map h (range_with_len 0 n)
    from_fn_made = fill_by_all h ys n (h 0) e.long (λ k l. simp zero-add at (made_at (h 0) ys 0 n e.each k l))

    pub from_fn_at : (k : ℕ) → k < n → slice_get ys k ≡ Some (h k)
    from_fn_at k l =
        slice_get-get_or ys k (h k) (omega (arith, e.long)) ∙ ap Some (simp zero-add at (made_at (h k) ys 0 n e.each k l))

module _ {F A B : Type 0} (g : Mut F (A × Unit {0}) B) (h : A → B) (f : F)
    (step : (x : A) (y : B) (q : F) → Called g f (x, tt) y q → (y ≡ h x) × (q ≡ f)) (d : A) where
  mapped_at : (xs : List A) (ys : List B) (i n : ℕ) → MapsFrom g f xs ys i n → (k : ℕ) → k < n → get_or ys (i + k) (h d) ≡ h (get_or xs (i + k) d)
  mapped_at xs ys i zero e k l = absurd (omega arith)
  mapped_at xs ys i (suc n) (q, x, y, from, to, call, rest) zero l =
      simp add-zero (to.1 (h d) ∙ (step x y q call).0 ∙ sym (ap h (from.1 d)))
  mapped_at xs ys i (suc n) (q, x, y, from, to, call, rest) (suc k) l =
      let e : i + suc k ≡ i + 1 + k = omega arith in
      rw e (mapped_at xs ys (i + 1) n (rw (step x y q call).1 at rest) k (omega arith))

  pub map_made : (xs : List A) (ys : List B) (n : ℕ) → length xs ≡ n → IsMapOf g f xs ys n → ys ≡ map h xs
  map_made xs ys n e m =
      ext_get_or (h d) ys (map h xs) (m.long ∙ sym e ∙ sym (length-map xs h))
      (λ k l. simp zero-add at (mapped_at xs ys 0 n m.each k (omega (arith, m.long))) ∙ sym (get_or-map h xs k d (h d) (omega (arith, m.long))))
