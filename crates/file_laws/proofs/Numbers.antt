-- Numbers and their bytes, there and back.
use mathlib.Core.Path.{◌≡◌, sym, ap, ap₂, ◌∙◌}
use Prim.Native.Nat.{ℕ, ◌+◌, ◌*◌, ◌/◌, ◌%◌, ◌≤◌, ◌<◌}
use native.Mathlib.Nat.{add_assoc}
use native.Mathlib.Numerals.{add-one, add-two}
use native.Mathlib.Omega.{arith}
use mathlib.Core.List.{List, [], ◌∷◌, ◌++◌}
use lib.ListN.{length, drop, get_or}
use lib.Seq.{get_or-drop, drop-cons}
use Rattle.file_bytes.specs.Number.{at16, at32, bytes16, bytes32}
use Rattle.file_laws.specs.Valid.{Bytes}
use Rattle.file_laws.proofs.Bytes.{bytes_none, bytes_more}

-- a number is what its two bytes hold, however large it is
pub two : (n : ℕ) → n % 256 + 256 * (n / 256) ≡ n
two n = omega arith

pub four : (n : ℕ) → n % 65536 + 65536 * (n / 65536) ≡ n
four n = omega arith

-- reading behind a place is reading what is left from there on
pub at16_drop : (s : List ℕ) (a b : ℕ) → at16 s (a + b) ≡ at16 (drop a s) b
unfolding at16
at16_drop s a b = rw (get_or-drop a s b 0, get_or-drop a s (b + 1) 0, add_assoc a b 1)

pub at16_small : (s : List ℕ) (at : ℕ) → Bytes s → at16 s at < 65536
unfolding at16
at16_small s at b = omega (arith, b at, b (at + 1))

-- the bytes of the number that two bytes hold are these two
bytes_of : (low high : ℕ) → low < 256 → bytes16 (low + 256 * high) ≡ low ∷ high ∷ []
bytes_of low high h =
    let p : (low + 256 * high) % 256 ≡ low = omega arith in
    let q : (low + 256 * high) / 256 ≡ high = omega arith in
    ap₂ (λ (x y : ℕ). x ∷ y ∷ []) p q

pub bytes16_at : (s : List ℕ) (at : ℕ) → Bytes s → at + 2 ≤ length s → bytes16 (at16 s at) ++ drop (at + 2) s ≡ drop at s
unfolding at16
bytes16_at s at b h =
    ap (λ (l : List ℕ). l ++ drop (at + 2) s) (bytes_of (get_or s at 0) (get_or s (at + 1) 0) (b at))
    ∙ sym (drop-cons s at 0 (omega arith) ∙ ap (λ (l : List ℕ). get_or s at 0 ∷ l) (ap (λ (k : ℕ). drop k s) (sym (add-one at)) ∙ drop-cons s (at + 1) 0 (omega arith) ∙ rw (add-one, add-two)))

-- two bytes more, in front
pub pair : (s : List ℕ) (a j : ℕ) (xs : List ℕ) → Bytes s → a + j + 2 ≤ length s → xs ≡ drop (a + (j + 2)) s → bytes16 (at16 s (a + j)) ++ xs ≡ drop (a + j) s
pair s a j xs b h e =
    ap (λ (l : List ℕ). bytes16 (at16 s (a + j)) ++ l) (e ∙ ap (λ (k : ℕ). drop k s) (sym (add_assoc a j 2))) ∙ bytes16_at s (a + j) b h

pub at32_drop : (s : List ℕ) (a b : ℕ) → at32 s (a + b) ≡ at32 (drop a s) b
unfolding at32
at32_drop s a b = ap₂ (λ (x y : ℕ). x + 65536 * y) (at16_drop s a b) (ap (at16 s) (add_assoc a b 2) ∙ at16_drop s a (b + 2))

-- and of four
pub bytes32_at : (s : List ℕ) (at : ℕ) → Bytes s → bytes32 (at32 s at) ≡ bytes16 (at16 s at) ++ bytes16 (at16 s (at + 2))
unfolding at32
bytes32_at s at b =
    let h = at16_small s at b in
    let p : (at16 s at + 65536 * at16 s (at + 2)) % 65536 ≡ at16 s at = omega arith in
    let q : (at16 s at + 65536 * at16 s (at + 2)) / 65536 ≡ at16 s (at + 2) = omega arith in
    ap₂ (λ (x y : ℕ). bytes16 x ++ bytes16 y) p q

-- a number that fits has two bytes
pub bytes16_then : (n : ℕ) (xs : List ℕ) → n < 65536 → Bytes xs → Bytes (bytes16 n ++ xs)
bytes16_then n xs h b = bytes_more (n % 256) (n / 256 ∷ xs) (omega arith) (bytes_more (n / 256) xs (omega arith) b)

pub bytes16_small : (n : ℕ) → n < 65536 → Bytes (bytes16 n)
bytes16_small n h = bytes16_then n [] h bytes_none
