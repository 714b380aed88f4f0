-- The bytes of entries one after the other, and how many they are.
use mathlib.Core.Path.{◌≡◌, refl, sym, ap, ◌∙◌}
use Prim.Native.Nat.{ℕ, ◌+◌, ◌*◌}
use native.Mathlib.Nat.{add-zero}
use native.Mathlib.Omega.{arith}
use mathlib.Core.List.{List, [], ◌∷◌, ◌++◌, append_assoc}
use lib.ListN.{length, length-append}
use Rattle.file_entries.specs.Limits.{entry_bytes, after_entries}
use Rattle.file_contents.specs.File.{Entry, head_of, heads_of, bodies_of, encode}

pub heads_append : (at : ℕ) (xs ys : List Entry) → heads_of at (xs ++ ys) ≡ heads_of at xs ++ heads_of (at + length (bodies_of xs)) ys
unfolding heads_of bodies_of
heads_append at [] ys = ap (λ (n : ℕ). heads_of n ys) (sym (add-zero at))
heads_append at (x ∷ xs) ys =
    let n = length x.body in
    let e : at + n + length (bodies_of xs) ≡ at + length (x.body ++ bodies_of xs) = simp length-append (omega arith) in
    ap (λ (l : List ℕ). head_of at x ++ l) (heads_append (at + n) xs ys ∙ ap (λ (k : ℕ). heads_of (at + n) xs ++ heads_of k ys) e)
    ∙ sym (append_assoc (head_of at x) (heads_of (at + n) xs) (heads_of (at + length (x.body ++ bodies_of xs)) ys))

pub length_head : (at : ℕ) (e : Entry) → length (head_of at e) ≡ entry_bytes
unfolding head_of
length_head at e = refl

pub length_heads : (at : ℕ) (es : List Entry) → length (heads_of at es) ≡ entry_bytes * length es
unfolding heads_of
length_heads at [] = refl
length_heads at (e ∷ es) =
    let h = length_heads (at + length e.body) es in
    let l = length-append (head_of at e) (heads_of (at + length e.body) es) in
    let k = length_head at e in
    omega arith

pub length_encode : (es : List Entry) → length (encode es) ≡ after_entries (length es) + length (bodies_of es)
unfolding encode
length_encode es =
    let h = length_heads (after_entries (length es)) es in
    let l = length-append (heads_of (after_entries (length es)) es) (bodies_of es) in
    omega arith
