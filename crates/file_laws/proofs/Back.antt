-- A file of entries that is made of bytes is the bytes of these entries.
use mathlib.Core.Path.{◌≡◌, refl, sym, ap, ap₂, ◌∙◌}
use Prim.Native.Nat.{ℕ, suc, ◌+◌, ◌≤◌}
use native.Mathlib.Nat.{add-zero, zero-add, add_assoc}
use native.Mathlib.Omega.{arith}
use mathlib.Core.List.{List, [], ◌∷◌, ◌++◌, append_assoc}
use lib.ListN.{length, take, drop, take-append-drop}
use lib.Seq.{drop-drop, drop-length}
use Rattle.file_bytes.specs.Number.{at16, bytes16, bytes32}
use Rattle.file_entries.specs.Limits.{entry_bytes, after_entries}
use Rattle.file_entries.specs.Entries.{count_of, form_of, kind_at, number_at, start_at, length_at, sum_at, body_at}
use Rattle.file_contents.specs.File.{Entry, head_of, heads_of, bodies_of, encode}
use Rattle.file_laws.specs.Valid.{Bytes}
use Rattle.file_laws.proofs.Numbers.{pair, bytes32_at, bytes16_at}
use Rattle.file_laws.proofs.Laid.{EntryIs, Laid, Lies}

-- an entry's twelve bytes, in front of what follows them
head_back : (s : List ℕ) (i at : ℕ) (e : Entry) → Bytes s → after_entries (i + 1) ≤ length s → EntryIs s i at e → head_of at e ++ drop (after_entries i + entry_bytes) s ≡ drop (after_entries i) s
unfolding head_of kind_at number_at start_at length_at sum_at
head_back s i at e b h is =
    let a = after_entries i in
    sym (λ j. (bytes16 (is.kind j) ++ (bytes16 (is.number j) ++ (bytes16 (is.start j) ++ (bytes16 (is.size j) ++ bytes32 (is.sum j))))) ++ drop (a + 12) s)
    ∙ (λ j. (bytes16 (at16 s a) ++ (bytes16 (at16 s (a + 2)) ++ (bytes16 (at16 s (a + 4)) ++ (bytes16 (at16 s (a + 6)) ++ bytes32_at s (a + 8) b j)))) ++ drop (a + 12) s)
    ∙ ap (λ (l : List ℕ). bytes16 (at16 s a) ++ l)
    (pair s a 2 _ b (omega arith)
    (pair s a 4 _ b (omega arith)
    (pair s a 6 _ b (omega arith)
    (pair s a 8 _ b (omega arith)
    (ap (λ (k : ℕ). bytes16 (at16 s k) ++ drop (a + 12) s) (add_assoc a 8 2) ∙ pair s a 10 _ b (omega arith) refl)))))
    ∙ bytes16_at s a b (omega arith)

-- the heads, in front of the bodies
heads_back : (s : List ℕ) (i at : ℕ) (es : List Entry) → Bytes s → after_entries (i + length es) ≤ length s → Laid s i at es
    → heads_of at es ++ drop (after_entries (i + length es)) s ≡ drop (after_entries i) s
unfolding heads_of
heads_back s i at [] b h l = ap (λ (k : ℕ). drop (after_entries k) s) (add-zero i)
heads_back s i at (e ∷ es) b h l =
    let n = length e.body in
    let p : after_entries (i + length (e ∷ es)) ≡ after_entries (suc i + length es) = omega arith in
    let q : after_entries (suc i) ≡ after_entries i + entry_bytes = omega arith in
    append_assoc (head_of at e) (heads_of (at + n) es) _
    ∙ ap (λ (l : List ℕ). head_of at e ++ l)
    (ap (λ (k : ℕ). heads_of (at + n) es ++ drop k s) p ∙ heads_back s (suc i) (at + n) es b (omega arith) l.1 ∙ ap (λ (k : ℕ). drop k s) q)
    ∙ head_back s i at e b (omega arith) l.0

bodies_back : (s : List ℕ) (i at : ℕ) (es : List Entry) → Laid s i at es → bodies_of es ≡ drop at s
unfolding bodies_of body_at
bodies_back s i at [] l = sym (ap (λ (k : ℕ). drop k s) l ∙ drop-length s)
bodies_back s i at (e ∷ es) l =
    let n = length e.body in
    ap₂ (λ (x y : List ℕ). x ++ y)
    (sym l.0.body ∙ ap₂ (λ (k a : ℕ). take k (drop a s)) l.0.size l.0.start)
    (bodies_back s (suc i) (at + n) es l.1 ∙ sym (drop-drop n at s))
    ∙ take-append-drop n (drop at s)

pub lies_back : (s : List ℕ) (es : List Entry) → Bytes s → after_entries (length es) ≤ length s → Lies s es → encode es ≡ s
unfolding encode count_of form_of
lies_back s es b h is =
    let n = length es in
    ap₂ (λ (x y : ℕ). (bytes16 x ++ bytes16 y) ++ (heads_of (after_entries n) es ++ bodies_of es)) (sym is.count) (sym is.form)
    ∙ ap (λ (l : List ℕ). bytes16 (at16 s 0) ++ (bytes16 (at16 s 2) ++ l))
    (ap (λ (l : List ℕ). heads_of (after_entries n) es ++ l) (bodies_back s 0 (after_entries n) es is.laid)
    ∙ ap (λ (k : ℕ). heads_of (after_entries n) es ++ drop (after_entries k) s) (sym (zero-add n))
    ∙ heads_back s 0 (after_entries n) es b (omega arith) is.laid)
    ∙ ap (λ (l : List ℕ). bytes16 (at16 s 0) ++ l) (bytes16_at s 2 b (omega arith))
    ∙ bytes16_at s 0 b (omega arith)
