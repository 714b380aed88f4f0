-- What the machine does with one bit, in words of W bits.
use mathlib.Core.Path.{◌≡◌, refl, sym, ap, ◌∙◌}
use mathlib.Core.Logic.{⊎_elim}
use mathlib.Core.Bool.{true, false}
use Prim.Native.Nat.{ℕ, ◌-◌, ◌*◌, ◌%◌, ◌^◌, ◌<◌}
use native.Mathlib.Omega.{arith}
use lib.Bits.{bit_and, and_le_l}
use mir.Val.{bits}
use Rattle.std.specs.Int.{Width, bit_at, bit_not}
use Rattle.std.specs.Int.RustNames.{bit_or}
use Rattle.std.proofs.lemmas.Bool.{cases_eq}
use Rattle.std.proofs.lemmas.Nat.{or_lt, one_shl}
use Rattle.std.proofs.lemmas.Nat.Bits.{bit_at-zero, bit_at_ones, bit_at_and, bit_at_or, bit_at-lt, bit_at-pow_same, bit_at-pow_other, bit_at_clear_same, bit_at_clear_other}
use borrow.Author.Tests.{eq-eqb, ne_eqb}
use Rattle.sets.specs.Word.{member, put}
use Rattle.sets.proofs.Words.{word_ext, word_member, put_word, with_row}

module _ (W : Width) (i : ℕ) (h : i < bits W) (w v : ℕ) where
  -- row i alone
  abbrev row : ℕ
  row = 1 * 2 ^ i % 2 ^ bits W

  abbrev taken : ℕ
  taken = bit_or (bit_and w (bit_not W row)) (bit_and v row)

  digit_here : bit_at taken i ≡ bit_at v i
  digit_here =
      rw (bit_at_or, bit_at_clear_same W w i h, bit_at_and v row i, one_shl i (bits W) h, bit_at-pow_same i)
      (omega (arith, bit_at-lt v i))

  digit_other : (k : ℕ) → k < bits W → (k ≡ i → ⊥) → bit_at taken k ≡ bit_at w k
  digit_other k l f =
      rw (bit_at_or, bit_at_clear_other W w i h k l f, bit_at_and v row k, one_shl i (bits W) h, bit_at-pow_other i k f)
      (omega (arith, bit_at-lt w k))

  digits : (k : ℕ) → k < bits W → with_row i (member i v) (λ j. member j w) k ≡ member k taken
  unfolding member
  digits k l =
      ⊎_elim
      (λ (e : k ≡ i). rw (eq-eqb k i e, e, digit_here) refl)
      (λ (f : k ≡ i → ⊥). rw (ne_eqb k i f, digit_other k l f) refl)
      (cases_eq k i)

  -- the row's digit is v's, and the others stay
  pub take_digit : w < 2 ^ bits W → v < 2 ^ bits W → taken ≡ put i (member i v) w
  take_digit p q =
      let small : taken < 2 ^ bits W = or_lt (bits W) (bit_and w (bit_not W row)) (bit_and v row) (omega (arith, and_le_l w (bit_not W row))) (omega (arith, and_le_l v row)) in
      sym (word_member (bits W) taken small)
      ∙ sym (word_ext (bits W) {p = with_row i (member i v) (λ j. member j w)} {q = λ j. member j taken} digits)
      ∙ sym (put_word (bits W) i (member i v) (λ j. member j w) h)
      ∙ ap (put i (member i v)) (word_member (bits W) w p)

-- the empty set, and the set of all rows
pub member_none : (i : ℕ) → member i 0 ≡ false
unfolding member
member_none i = rw (bit_at-zero i) refl

pub member_all : (n i : ℕ) → i < n → member i (2 ^ n - 1) ≡ true
unfolding member
member_all n i h = rw (bit_at_ones n i h) refl
