-- How the code comes to the first refusal that applies, and what it tells that none does.
use mathlib.Core.Path.{◌≡◌, refl, sym, ap, ◌∙◌}
use mathlib.Core.Bool.{Bool, true, false, cond}
use mathlib.Core.Logic.{⊎_elim}
use Prim.Native.Nat.{ℕ, zero, suc, ◌<◌}
use native.Mathlib.Nat.{eq-or-lt_of_le}
use native.Mathlib.Omega.{arith}
use lib.Dec.{eqb}
use borrow.Author.Tests.{eq-eqb, ne_eqb, eqb-true, eqb-false}
use Rattle.refusal.specs.Refusal.{Numbered, none}
use Rattle.refusal.specs.Order.{first, in_turn}

-- the first of two refusals
module _ (r next : Numbered) where
  pub first_next : r.no ≡ 0 → next ≡ first r next
  unfolding first
  first_next e = rw (eq-eqb r.no 0 e)

  pub first_here : (r.no ≡ 0 → ⊥) → r ≡ first r next
  unfolding first
  first_here n = rw (ne_eqb r.no 0 n)

  pub first_fine : (first r next).no ≡ 0 → (r.no ≡ 0) × (next.no ≡ 0)
  unfolding first
  first_fine = go (eqb r.no 0) refl
    where
      go : (t : Bool) → eqb r.no 0 ≡ t → (cond t next r).no ≡ 0 → (r.no ≡ 0) × (next.no ≡ 0)
      go true h e = (eqb-true _ _ h, e)
      go false h e = absurd (eqb-false _ _ h e)

-- the entries in turn
module _ (f : ℕ → Numbered) where
  pub turn_fine : (n : ℕ) → ((k : ℕ) → k < n → (f k).no ≡ 0) → none ≡ in_turn f n
  unfolding in_turn
  turn_fine zero h = refl
  turn_fine (suc n) h =
      first_next (f n) none (h n (omega arith))
      ∙ first_next (in_turn f n) (first (f n) none) (sym (ap (λ (r : Numbered). r.no) (turn_fine n (λ k l. h k (omega arith)))))

  pub turn_here : (n i : ℕ) → ((k : ℕ) → k < i → (f k).no ≡ 0) → ((f i).no ≡ 0 → ⊥) → i < n → f i ≡ in_turn f n
  unfolding in_turn
  turn_here zero i h b l = absurd (omega arith)
  turn_here (suc n) i h b l = ⊎_elim last (λ g. before (turn_here n i h b (omega arith))) (eq-or-lt_of_le (omega arith))
    where
      last : i ≡ n → f i ≡ in_turn f (suc n)
      last e =
          ap f e
          ∙ first_here (f n) none (λ z. b (ap (λ (j : ℕ). (f j).no) e ∙ z))
          ∙ first_next (in_turn f n) (first (f n) none) (sym (ap (λ (r : Numbered). r.no) (turn_fine n (λ k l. h k (omega arith)))))

      before : f i ≡ in_turn f n → f i ≡ in_turn f (suc n)
      before e = e ∙ first_here (in_turn f n) (first (f n) none) (λ z. b (ap (λ (r : Numbered). r.no) e ∙ z))

  pub turn_all : (n : ℕ) → (in_turn f n).no ≡ 0 → (k : ℕ) → k < n → (f k).no ≡ 0
  unfolding in_turn
  turn_all zero e k l = absurd (omega arith)
  turn_all (suc n) e k l =
      let p = first_fine (in_turn f n) (first (f n) none) e in
      ⊎_elim (λ g. ap (λ (j : ℕ). (f j).no) g ∙ (first_fine (f n) none p.1).0) (λ g. turn_all n p.0 k g) (eq-or-lt_of_le (omega arith))
