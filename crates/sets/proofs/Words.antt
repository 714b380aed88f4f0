-- Words of any width: the word of a test, a row's bit in it, and a bit put.
use mathlib.Core.Path.{◌≡◌, refl, sym, ap, ap₂, subst, ◌∙◌}
use mathlib.Core.Bool.{Bool, true, false, cond}
use mathlib.Core.Logic.{⊎_elim}
use Prim.Native.Nat.{ℕ, zero, suc, ◌+◌, ◌*◌, ◌/◌, ◌%◌, ◌^◌, ◌≤◌, ◌<◌}
use native.Mathlib.Nat.{le_trans, le_of_suc-le-suc, not-suc-le-zero, eq-or-lt_of_le, mul-le-mul_right, pow-suc, add_comm, zero-mul, mod-lt, mod-le, mod-eq_of_lt, div-mul-le_self, div-add-mod', div-lt_iff_lt-mul}
use native.Mathlib.Omega.{arith}
use lib.Dec.{eqb}
use borrow.Author.Tests.{eq-eqb, ne_eqb}
use Rattle.std.proofs.lemmas.Nat.Bits.{bit_at_cat_low, bit_at_above}
use lib.Pow.{pow_pos, pow_mono, high}
use lib.Count.{ones, ones_cat}
use Rattle.basics.specs.Sum.{sum, bit}
use Rattle.sets.specs.Word.{word, member, unset, put}

bit_lt : (b : Bool) (n w : ℕ) → w < 2 ^ n → bit b * 2 ^ n + w < 2 ^ suc n
bit_lt true n w h = omega (arith, pow-suc 2 n)
bit_lt false n w h = omega (arith, pow-suc 2 n, pow_pos n)

pub word_lt : (n : ℕ) (p : ℕ → Bool) → word n p < 2 ^ n
unfolding word
word_lt zero p = omega arith
word_lt (suc n) p = bit_lt (p n) n (word n p) (word_lt n p)

pub word_ext : (n : ℕ) {p q : ℕ → Bool} → ((i : ℕ) → i < n → p i ≡ q i) → word n p ≡ word n q
unfolding word
word_ext zero f = refl
word_ext (suc n) f = ap₂ (λ (b : Bool) (w : ℕ). bit b * 2 ^ n + w) (f n (omega arith)) (word_ext n (λ i h. f i (omega arith)))

pub word_none : (n : ℕ) → word n (λ i. false) ≡ 0
unfolding word
word_none zero = refl
word_none (suc n) = omega (arith, word_none n, zero-mul (2 ^ n))

-- the machine's count of a word is the sum of its test
ones_bit : (b : Bool) → ones (bit b) ≡ bit b
unfolding ones
ones_bit true = refl
ones_bit false = refl

pub ones_word : (n : ℕ) (p : ℕ → Bool) → ones (word n p) ≡ sum n (λ i. bit (p i))
unfolding word sum
ones_word zero p = ones_bit false
ones_word (suc n) p = ones_cat n (bit (p n)) (word n p) (word_lt n p) ∙ ap₂ (λ (x y : ℕ). x + y) (ones_bit (p n)) (ones_word n p) ∙ add_comm (bit (p n)) _

-- ---- a digit of a word
bit_mod : (b : Bool) → bit b % 2 ≡ bit b
bit_mod true = refl
bit_mod false = refl

top_digit : (n : ℕ) (p : ℕ → Bool) → (bit (p n) * 2 ^ n + word n p) / 2 ^ n % 2 ≡ bit (p n)
top_digit n p = ap (λ (x : ℕ). x % 2) (high (bit (p n)) n (word_lt n p)) ∙ bit_mod (p n)

digit_word : (n i : ℕ) (p : ℕ → Bool) → i < n → word n p / 2 ^ i % 2 ≡ bit (p i)
unfolding word
digit_word zero i p h = absurd (not-suc-le-zero h)
digit_word (suc n) i p h =
    ⊎_elim
    (λ e. ap (λ (x : ℕ). (bit (p n) * 2 ^ n + word n p) / 2 ^ x % 2) e ∙ top_digit n p ∙ ap (λ (x : ℕ). bit (p x)) (sym e))
    (λ l. bit_at_cat_low (bit (p n)) n (word n p) i l ∙ digit_word n i p l)
    (eq-or-lt_of_le (le_of_suc-le-suc h))

eqb_bit : (b : Bool) → eqb (bit b) 1 ≡ b
eqb_bit true = refl
eqb_bit false = refl

pub member_word : (n i : ℕ) (p : ℕ → Bool) → i < n → member i (word n p) ≡ p i
unfolding member
member_word n i p h = ap (λ (x : ℕ). eqb x 1) (digit_word n i p h) ∙ eqb_bit (p i)

small : (x : ℕ) → x < 2 → bit (eqb x 1) ≡ x
small zero h = refl
small (suc zero) h = refl
small (suc (suc x)) h = absurd (omega arith)

pub bit_member : (i w : ℕ) → bit (member i w) ≡ w / 2 ^ i % 2
unfolding member
bit_member i w = small (w / 2 ^ i % 2) (mod-lt (w / 2 ^ i) (omega arith))

low_member : (n w i : ℕ) → i < n → member i w ≡ member i (w % 2 ^ n)
unfolding member
low_member n w i l = ap (λ (x : ℕ). eqb (x / 2 ^ i % 2) 1) (sym (div-add-mod' w (2 ^ n))) ∙ ap (λ (x : ℕ). eqb x 1) (bit_at_cat_low (w / 2 ^ n) n (w % 2 ^ n) i l)

-- a word is the word of its digits
pub word_member : (n w : ℕ) → w < 2 ^ n → word n (λ i. member i w) ≡ w
unfolding word
word_member zero w h = omega arith
word_member (suc n) w h =
    ap₂ (λ (x y : ℕ). x * 2 ^ n + y)
    (bit_member n w ∙ mod-eq_of_lt ((div-lt_iff_lt-mul (pow_pos n)).1 (omega (arith, pow-suc 2 n))))
    (word_ext n {p = λ i. member i w} {q = λ i. member i (w % 2 ^ n)} (low_member n w) ∙ word_member n (w % 2 ^ n) (mod-lt w (pow_pos n)))
    ∙ div-add-mod' w (2 ^ n)

-- ---- a digit put
pub digit_le : (i w : ℕ) → w / 2 ^ i % 2 * 2 ^ i ≤ w
digit_le i w = le_trans (mul-le-mul_right (2 ^ i) (mod-le (w / 2 ^ i) 2)) (div-mul-le_self w (2 ^ i))

-- a digit that is put as it is
pub put_same : (i w : ℕ) {b : Bool} → b ≡ member i w → put i b w ≡ w
unfolding put unset
put_same i w {b} e = rw (e, bit_member i w) (omega (arith, digit_le i w))

abbrev pub with_row : ℕ → Bool → (ℕ → Bool) → ℕ → Bool
with_row i b p k = cond (eqb k i) b (p k)

with_other : (i : ℕ) (b : Bool) (p : ℕ → Bool) {k : ℕ} → (k ≡ i → ⊥) → with_row i b p k ≡ p k
with_other i b p {k} f = rw (ne_eqb k i f)

with_here : (i : ℕ) (b : Bool) (p : ℕ → Bool) → with_row i b p i ≡ b
with_here i b p = rw (eq-eqb i i refl)

put_top : (n : ℕ) (b : Bool) (p : ℕ → Bool) → put n b (bit (p n) * 2 ^ n + word n p) ≡ bit b * 2 ^ n + word n p
unfolding put unset
put_top n b p = rw (top_digit n p) (omega arith)

put_low : (n i : ℕ) (b : Bool) (x w : ℕ) → i < n → put i b (x * 2 ^ n + w) ≡ x * 2 ^ n + put i b w
unfolding put unset
put_low n i b x w l = rw (bit_at_cat_low x n w i l) (omega (arith, digit_le i w))

pub put_word : (n i : ℕ) (b : Bool) (p : ℕ → Bool) → i < n → put i b (word n p) ≡ word n (with_row i b p)
unfolding word
put_word zero i b p h = absurd (not-suc-le-zero h)
put_word (suc n) i b p h = ⊎_elim here (λ l. low l (put_word n i b p l)) (eq-or-lt_of_le (le_of_suc-le-suc h))
  where
    here : i ≡ n → put i b (bit (p n) * 2 ^ n + word n p) ≡ bit (with_row i b p n) * 2 ^ n + word n (with_row i b p)
    here e =
        ap (λ (x : ℕ). put x b (bit (p n) * 2 ^ n + word n p)) e ∙ put_top n b p
        ∙ ap₂ (λ (x : Bool) (y : ℕ). bit x * 2 ^ n + y) (sym (ap (λ (x : ℕ). with_row x b p n) e ∙ with_here n b p))
        (word_ext n {p = p} {q = with_row i b p} (λ k l. sym (with_other i b p (λ (z : k ≡ i). omega arith))))

    low : i < n → put i b (word n p) ≡ word n (with_row i b p) → put i b (bit (p n) * 2 ^ n + word n p) ≡ bit (with_row i b p n) * 2 ^ n + word n (with_row i b p)
    low l ih = put_low n i b (bit (p n)) (word n p) l ∙ ap₂ (λ (x : Bool) (y : ℕ). bit x * 2 ^ n + y) (sym (with_other i b p (λ (z : n ≡ i). omega arith))) ih

lt_pow : (w : ℕ) → w < 2 ^ w
lt_pow zero = omega arith
lt_pow (suc w) = omega (arith, lt_pow w, pow-suc 2 w)

-- the digit that was put
pub member_put : (i : ℕ) (b : Bool) (w : ℕ) → member i (put i b w) ≡ b
member_put i b w =
    let n : ℕ = suc i + w in
    let p : ℕ → Bool = λ k. member k w in
    let l : w < 2 ^ n = omega (arith, lt_pow w, pow_mono {i = w} {j = n} (omega arith)) in
    subst (λ (x : ℕ). member i (put i b x) ≡ b) (word_member n w l)
    (ap (member i) (put_word n i b p (omega arith)) ∙ member_word n i (with_row i b p) (omega arith) ∙ with_here i b p)

-- a row number past the width is in no word, and taking it out changes nothing
pub member_high : (W i w : ℕ) → W ≤ i → w < 2 ^ W → member i w ≡ false
unfolding member
member_high W i w h l = rw (bit_at_above w W i l h) refl

pub put_high : (W i w : ℕ) → W ≤ i → w < 2 ^ W → put i false w ≡ w
put_high W i w h l = put_same i w (sym (member_high W i w h l))
