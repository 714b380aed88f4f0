-- What `of_result` answers is determined where what an answer holds goes into one number, as a `u8` and a `u32` do.
use mathlib.Core.Path.{◌≡◌, sym, ap, ◌∙◌}
use mathlib.Core.List.{List}
use Prim.Native.Nat.{ℕ}
use Rattle.std.specs.Prelude.{Result, Ok, Err}
use Rattle.refusal.specs.declared.Refusal.{Refusal}
use Rattle.refusal.specs.Refusal.{none}
use Rattle.c_numbers.specs.Answers.{refusal_and, Answered}

pub answered_once : {T : Type 0} (becomes : T → ℕ → Type 0) → ((x : T) (n m : ℕ) → becomes x n → becomes x m → n ≡ m) → (r : Result T Refusal) (a b : List ℕ)
    → Answered becomes r a → Answered becomes r b → a ≡ b
answered_once becomes one (Ok x) a b (n, e, p) (m, f, q) = p ∙ ap (refusal_and none) (one x n m e f) ∙ sym q
answered_once becomes one (Err r) a b p q = p ∙ sym q

-- a number goes into itself
pub number_answered : (r : Result ℕ Refusal) (a b : List ℕ) → Answered (λ x n. n ≡ x) r a → Answered (λ x n. n ≡ x) r b → a ≡ b
number_answered = answered_once (λ x n. n ≡ x) (λ x n m e f. e ∙ sym f)
