-- Text after text, and a number digit by digit.
use mathlib.Core.Path.{◌≡◌, refl, sym, ap, ◌∙◌}
use mathlib.Core.List.{List, [], ◌++◌}
use Prim.Native.Nat.{ℕ, ◌+◌, ◌/◌, ◌%◌, ◌≤◌, ◌<◌}
use native.Mathlib.Nat.{zero-add}
use native.Mathlib.Omega.{arith}
use lib.ListN.{length, take, set, length-append}
use borrow.Author.Tests.{le-leb, lt-leb}
use Rattle.file_bytes.specs.Over.{over}
use Rattle.file_bytes.proofs.Overs.{over_none, set_over, over_byte, next_over, length_over, take_over}
use Rattle.text_decimal.specs.declared.Output.{Output}
use Rattle.text_decimal.specs.Decimal.{digit, decimal}
use Rattle.text_decimal.specs.Put.{place_after, Put, PutIn, Written}
use Rattle.text_decimal.proofs.Decimals.{decimal_small, decimal_more, decimal_one, decimal_longer, decimal_some, decimal_32}

-- the place after a text, where there is room for it and where there is none
module _ (room at n : ℕ) where
  pub place_room : at + n ≤ room → at + n ≡ place_after room at n
  place_room h = rw (le-leb _ _ h)

  pub place_full : room < at + n → at ≡ place_after room at n
  place_full h = rw (lt-leb _ _ h)

-- what is told where there is room
pub put_place : {o text o' : List ℕ} {at r : ℕ} → Put o at text o' r → at + length text ≤ length o → r ≡ at + length text
put_place p h = rw (le-leb _ _ h) at p.place

pub put_length : {o text o' : List ℕ} {at r : ℕ} → Put o at text o' r → length o' ≡ length o
put_length {o} {text} {o'} {at} p = ap length p.output ∙ length_over o at text

-- nothing is written anywhere
pub written_none : (o : Output) → Written o [] o
written_none o = record {
  same = refl;
  kept = refl;
  put = λ h. record { output = sym (over_none o.bytes.now o.at (omega arith)); place = rw (le-leb _ _ h) (omega arith) };
}

pub written : {o : Output} {text : List ℕ} {o' : Output} → PutIn o text o' → Written o text o'
written p = record { same = p.same; kept = put_length p.put; put = λ _. p.put }

-- a text right after a text is one text
put_then : {o xs o₁ ys o₂ : List ℕ} {at k r : ℕ} → at + length (xs ++ ys) ≤ length o → (at + length xs ≤ length o → Put o at xs o₁ k) → (k + length ys ≤ length o₁ → Put o₁ k ys o₂ r)
    → Put o at (xs ++ ys) o₂ r
put_then {o} {xs} {o₁} {ys} {o₂} {at} {k} {r} h f g =
    let s = length-append xs ys in
    let p : Put o at xs o₁ k = f (omega arith) in
    let l = put_length p in
    let e : k ≡ at + length xs = put_place p (omega arith) in
    let q : Put o₁ k ys o₂ r = g (omega arith) in
    let d : r ≡ k + length ys = put_place q (omega arith) in
    record { output = next_over o o₁ o₂ at k xs ys p.output q.output e (omega arith); place = rw (le-leb _ _ h) (omega arith) }

pub written_then : {o : Output} {xs : List ℕ} {o₁ : Output} {ys : List ℕ} {o₂ : Output} → Written o xs o₁ → Written o₁ ys o₂ → Written o (xs ++ ys) o₂
written_then f g = record { same = g.same ∙ f.same; kept = g.kept ∙ f.kept; put = λ h. put_then h f.put g.put }

-- a number below 10 is one byte, at the start
pub spell_one : (o : List ℕ) (v : ℕ) → v < 10 → 0 < length o → set o 0 (digit v) ≡ over o 0 (decimal v)
spell_one o v h l = rw (decimal_small v h) (set_over o 0 (digit v) l)

-- any other is its tenth, and one byte after that
pub spell_next : (o o₁ : List ℕ) (v n : ℕ) → 10 ≤ v → o₁ ≡ over o 0 (decimal (v / 10)) → n ≡ length (decimal (v / 10)) → n < length o
    → set o₁ n (digit (v % 10)) ≡ over o 0 (decimal v)
spell_next o o₁ v n h p e l =
    rw (decimal_more v h)
    (ap (λ (l : List ℕ). set l n (digit (v % 10))) p ∙ over_byte o 0 (decimal (v / 10)) n (digit (v % 10)) (omega (arith, e)) l)

-- what is written at the start is taken from there again
pub start_taken : (o o₁ bs : List ℕ) (n : ℕ) → o₁ ≡ over o 0 bs → n ≡ length bs → length bs ≤ length o → take n o₁ ≡ bs
start_taken o o₁ bs n p e h = rw (p, e) (ap (λ (k : ℕ). take k (over o 0 bs)) (sym (zero-add (length bs))) ∙ take_over o 0 bs (omega arith))

-- what the digits of a number, one by one, and the text of them need
pub ruleset digit_by_digit = (length_over, decimal_one, decimal_longer, decimal_some, decimal_32, spell_one, spell_next, start_taken)
