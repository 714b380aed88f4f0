-- The slots that pass, counted from a release on, and the first c of them.
use mathlib.Core.Path.{◌≡◌, refl, sym, ap, ap₂, ◌∙◌}
use mathlib.Core.Bool.{Bool, true, false, ◌&&◌}
use mathlib.Core.Logic.{⊎_elim}
use Prim.Native.Nat.{ℕ, zero, suc, ◌+◌, ◌-◌, ◌≤◌, ◌<◌}
use native.Mathlib.Nat.{le_refl, zero-add}
use native.Mathlib.Numerals.{add-one}
use native.Mathlib.Omega.{arith}
use mathlib.Core.List.{List}
use lib.Dec.{ltb}
use lib.ListN.{length, take}
use Rattle.std.specs.List.{sum_by}
use mir.Val.{bool_byte}
use Rattle.std.proofs.lemmas.List.Sums.{sum_by_more}
use Rattle.std.proofs.lemmas.List.{take_all}
use Rattle.std.proofs.lemmas.Bool.{cases_lt}
use Rattle.std.proofs.Math.Bool.{and-true, and-false}
use Rattle.sets.specs.Word.{member}
use borrow.Author.Tests.{lt-ltb, le-ltb}
use Rattle.basics.specs.Sum.{sum, bit}
use Rattle.basics.proofs.Sums.{sum_eq, sum_longer}
use Rattle.judge_jobs.specs.First.{in_slot, tally, first}

pub bit_le_one : (b : Bool) → bit b ≤ 1
bit_le_one true = omega arith
bit_le_one false = omega arith

bit_none : (b : Bool) → bit b ≡ 0 → b ≡ false
bit_none true e = absurd (omega arith)
bit_none false e = refl

module _ (p : ℕ → Bool) (b : ℕ) where
  pub tally_zero : tally p b 0 ≡ 0
  unfolding tally sum
  tally_zero = refl

  -- one slot more
  pub tally_suc : (o : ℕ) → tally p b (suc o) ≡ tally p b o + bit (p (b + o))
  unfolding tally sum
  tally_suc o = refl

  pub tally_longer : {o k : ℕ} → o ≤ k → tally p b o ≤ tally p b k
  unfolding tally
  tally_longer h = sum_longer (λ k. bit (p (b + k))) h

  -- at most every slot passes
  pub tally_le : (o : ℕ) → tally p b o ≤ o
  tally_le zero = omega (arith, tally_zero)
  tally_le (suc o) = omega (arith, tally_suc o, bit_le_one (p (b + o)), tally_le o)

-- in a window's own list: one slot more, and one fewer
pub tally_next : (p : ℕ → Bool) (s : ℕ) → tally p 0 (s + 1) ≡ tally p 0 s + bit (p s)
tally_next p s = ap (tally p 0) (add-one s) ∙ tally_suc p 0 s ∙ ap (λ (k : ℕ). tally p 0 s + bit (p k)) (zero-add s)

pub tally_back : (p : ℕ → Bool) (s : ℕ) → 0 < s → tally p 0 s ≡ tally p 0 (s - 1) + bit (p (s - 1))
tally_back p s h = ap (tally p 0) (let e : s ≡ s - 1 + 1 = omega arith in e) ∙ tally_next p (s - 1)

-- the sum of a list's bits of row i
byte_bit : (b : Bool) → bool_byte b ≡ bit b
byte_bit true = refl
byte_bit false = refl

counted : (i : ℕ) (l : List ℕ) (n : ℕ) → n ≤ length l → sum_by (λ w. bool_byte (member i w)) (take n l) ≡ tally (in_slot i l) 0 n
counted i l zero h = sym (tally_zero (in_slot i l) 0)
counted i l (suc n) h =
    rw (← add-one n, sum_by_more (λ w. bool_byte (member i w)) l n 0 h, counted i l n (omega arith), byte_bit) (sym (tally_next (in_slot i l) n))

pub sum_tally : (i : ℕ) (l : List ℕ) → sum_by (λ w. bool_byte (member i w)) l ≡ tally (in_slot i l) 0 (length l)
sum_tally i l = ap (sum_by (λ w. bool_byte (member i w))) (sym (take_all (length l) l (le_refl (length l)))) ∙ counted i l (length l) (le_refl (length l))

pub tally_ext : (p q : ℕ → Bool) (b o : ℕ) → ((k : ℕ) → k < o → p (b + k) ≡ q (b + k)) → tally p b o ≡ tally q b o
unfolding tally
tally_ext p q b o e = sum_eq o (λ k l. ap bit (e k l))

pub first_ext : (c : ℕ) (p q : ℕ → Bool) (b s : ℕ) → b ≤ s → ((k : ℕ) → b ≤ k → k ≤ s → p k ≡ q k) → first c p b s ≡ first c q b s
unfolding first
first_ext c p q b s h e =
    ap₂ (λ (x : Bool) (n : ℕ). x && ltb n c) (e s h (le_refl s)) (tally_ext p q b (s - b) (λ k l. e (b + k) (omega arith) (omega arith)))

module _ (c : ℕ) (p : ℕ → Bool) (b : ℕ) where
  -- before c have passed, every slot that passes is one of the first c
  pub first_below : (s : ℕ) → tally p b (s - b) < c → first c p b s ≡ p s
  unfolding first
  first_below s l = rw (lt-ltb (tally p b (s - b)) c l) (and-true (p s))

  -- and from then on none is
  pub first_above : (s : ℕ) → c ≤ tally p b (s - b) → first c p b s ≡ false
  unfolding first
  first_above s l = rw (le-ltb (tally p b (s - b)) c l) (and-false (p s))

  -- fewer than c pass in the window: they stay as they are
  pub first_few : (len s : ℕ) → tally p b len < c → b ≤ s → s < b + len → first c p b s ≡ p s
  first_few len s l h k = first_below s (omega (arith, tally_longer p b {o = s - b} {k = len} (omega arith)))

  module _ (o : ℕ) (e : tally p b o ≡ c) where
    pub first_low : (s : ℕ) → b ≤ s → s < b + o → first c p b s ≡ p s
    first_low s h l = ⊎_elim (first_below s) late (cases_lt (tally p b (s - b)) c)
      where
        late : c ≤ tally p b (s - b) → first c p b s ≡ p s
        late g =
            let d : p (b + (s - b)) ≡ false = bit_none _ (omega (arith, tally_suc p b (s - b), tally_longer p b {o = suc (s - b)} {k = o} (omega arith))) in
            first_above s g ∙ sym (ap p (let q : s ≡ b + (s - b) = omega arith in q) ∙ d)

    pub first_high : (s : ℕ) → b + o ≤ s → first c p b s ≡ false
    first_high s h = first_above s (omega (arith, tally_longer p b {o = o} {k = s - b} (omega arith)))
