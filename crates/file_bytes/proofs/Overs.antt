-- How bytes written one part after the other come to be one part.
use Rattle.std.proofs.Common.{◌≡◌, ℕ, ◌+◌, ◌-◌, ◌<◌, ◌≤◌, List, [], ◌∷◌, ◌++◌, length, take, drop, set, sym, ap, ◌∙◌, ap₂, append_assoc, add-zero, zero-add, add-one, arith, length-append, length-drop, take-append-drop, length-take, drop-drop, take_at, le-leb}
use native.Mathlib.Decide.{dec_le}
use lib.Seq.{drop-append-add, set_split}
use borrow.Author.Tests.{lt-leb}
use Rattle.file_bytes.specs.Over.{over}

module _ (o : List ℕ) (at : ℕ) (bs : List ℕ) where
  pub over_room : at + length bs ≤ length o → over o at bs ≡ take at o ++ (bs ++ drop (at + length bs) o)
  unfolding over
  over_room h = rw (le-leb _ _ h)

  pub over_full : length o < at + length bs → over o at bs ≡ o
  unfolding over
  over_full h = rw (lt-leb _ _ h)

  pub length_over : length (over o at bs) ≡ length o
  length_over = go (dec_le (at + length bs) (length o))
    where
      go : Dec (at + length bs ≤ length o) → length (over o at bs) ≡ length o
      go (yes h) = rw (over_room h) (simp (length-append, length-take, length-drop) (omega arith))
      go (no h) = rw (over_full (omega arith))

  module _ (h : at + length bs ≤ length o) where
    parts : over o at bs ≡ (take at o ++ bs) ++ drop (at + length bs) o
    parts = over_room h ∙ sym (append_assoc (take at o) bs (drop (at + length bs) o))

    front : length (take at o ++ bs) ≡ at + length bs
    front = simp (length-append, length-take) (omega arith)

    -- what stands before the end of what is written, and after it
    pub take_over : take (at + length bs) (over o at bs) ≡ take at o ++ bs
    take_over = rw parts (take_at (take at o ++ bs) (drop (at + length bs) o) (at + length bs) front)

    pub drop_over : (n : ℕ) → drop (at + length bs + n) (over o at bs) ≡ drop (at + length bs + n) o
    drop_over n =
        rw parts
        (ap (λ (k : ℕ). drop (k + n) ((take at o ++ bs) ++ drop (at + length bs) o)) (sym front)
        ∙ drop-append-add (take at o ++ bs) (drop (at + length bs) o) n
        ∙ drop-drop n (at + length bs) o)

-- a part right after a part is one part
pub over_over : (o : List ℕ) (at : ℕ) (xs ys : List ℕ) → at + length xs + length ys ≤ length o → over (over o at xs) (at + length xs) ys ≡ over o at (xs ++ ys)
over_over o at xs ys h =
    let l = length_over o at xs in
    let e : at + length xs + length ys ≡ at + length (xs ++ ys) = simp length-append (omega arith) in
    over_room (over o at xs) (at + length xs) ys (omega arith)
    ∙ ap₂ (λ (l r : List ℕ). l ++ (ys ++ r)) (take_over o at xs (omega arith)) (drop_over o at xs (omega arith) (length ys))
    ∙ append_assoc (take at o) xs (ys ++ drop (at + length xs + length ys) o)
    ∙ ap (λ (l : List ℕ). take at o ++ l) (sym (append_assoc xs ys (drop (at + length xs + length ys) o)) ∙ ap (λ (k : ℕ). (xs ++ ys) ++ drop k o) e)
    ∙ sym (over_room o at (xs ++ ys) (omega arith))

pub next_over : (o o₁ o₂ : List ℕ) (at k : ℕ) (xs ys : List ℕ) → o₁ ≡ over o at xs → o₂ ≡ over o₁ k ys → k ≡ at + length xs → k + length ys ≤ length o → o₂ ≡ over o at (xs ++ ys)
next_over o o₁ o₂ at k xs ys p q e h = q ∙ ap₂ (λ (l : List ℕ) (n : ℕ). over l n ys) p e ∙ over_over o at xs ys (omega arith)

pub over_none : (o : List ℕ) (at : ℕ) → at ≤ length o → over o at [] ≡ o
over_none o at h = over_room o at [] (omega arith) ∙ rw add-zero (take-append-drop at o)

-- a byte stored
pub set_over : (o : List ℕ) (i v : ℕ) → i < length o → set o i v ≡ over o i (v ∷ [])
set_over o i v h = set_split o i v h ∙ ap (λ (k : ℕ). take i o ++ (v ∷ drop k o)) (sym (add-one i)) ∙ sym (over_room o i (v ∷ []) (omega arith))

pub over_byte : (o : List ℕ) (at : ℕ) (xs : List ℕ) (i v : ℕ) → i ≡ at + length xs → i < length o → set (over o at xs) i v ≡ over o at (xs ++ (v ∷ []))
over_byte o at xs i v e h =
    let l = length_over o at xs in
    set_over (over o at xs) i v (omega arith)
    ∙ ap (λ (k : ℕ). over (over o at xs) k (v ∷ [])) e
    ∙ over_over o at xs (v ∷ []) (omega arith)

-- what is written at the start comes first, and the rest stands as it was
pub over_start : (o bs : List ℕ) → length bs ≤ length o → over o 0 bs ≡ bs ++ drop (length bs) o
over_start o bs h = over_room o 0 bs (omega arith) ∙ rw zero-add
