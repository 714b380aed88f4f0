-- How the entries of a list lie in a file, whatever the file's other bytes are.
use mathlib.Core.Path.{◌≡◌, refl, sym, ap, ap₂, ◌∙◌}
use Prim.Native.Nat.{ℕ, suc, ◌+◌, ◌*◌, ◌/◌, ◌%◌}
use native.Mathlib.Nat.{add-zero}
use native.Mathlib.Omega.{arith}
use mathlib.Core.List.{List, [], ◌∷◌, ◌++◌, append_assoc}
use lib.ListN.{length, take, drop, length-append}
use lib.Seq.{drop-drop, drop_at, drop-append_seam, take-append_seam}
use Rattle.file_bytes.specs.Number.{at16, at32}
use Rattle.file_bytes.specs.Sum.{sum_of}
use Rattle.file_entries.specs.Limits.{the_form, head_bytes, entry_bytes, after_entries}
use Rattle.file_entries.specs.Entries.{count_of, form_of, kind_at, number_at, start_at, length_at, sum_at, body_at}
use Rattle.file_contents.specs.File.{Entry, entry_by, head_of, heads_of, bodies_of, encode, entry_at, entries_from, entries_of}
use Rattle.file_contents.proofs.Files.{length_heads, length_encode}
use Rattle.file_laws.proofs.Numbers.{two, four, at16_drop, at32_drop}

-- entry i of s is e, with its body at a place
pub record EntryIs (s : List ℕ) (i at : ℕ) (e : Entry) : Type 0 where
  pub kind : kind_at s i ≡ e.kind
  pub number : number_at s i ≡ e.number
  pub start : start_at s i ≡ at
  pub size : length_at s i ≡ length e.body
  pub sum : sum_at s i ≡ sum_of e.body
  pub body : body_at s i ≡ e.body

-- the entries es stand in s from entry i on, their bodies from a place on, and the last body ends s
abbrev pub Laid : List ℕ → ℕ → ℕ → List Entry → Type 0
Laid s i at [] = at ≡ length s
Laid s i at (e ∷ es) = EntryIs s i at e × Laid s (suc i) (at + length e.body) es

-- s is a file of the entries es
pub record Lies (s : List ℕ) (es : List Entry) : Type 0 where
  pub count : count_of s ≡ length es
  pub form : form_of s ≡ the_form
  pub laid : Laid s 0 (after_entries (length es)) es

-- an entry is read from its twelve bytes and its body
module _ (s : List ℕ) (i at : ℕ) (e : Entry) (heads bodies : List ℕ) (head : drop (after_entries i) s ≡ head_of at e ++ heads) (body : drop at s ≡ e.body ++ bodies) where
  field : (j : ℕ) → at16 s (after_entries i + j) ≡ at16 (head_of at e ++ heads) j
  field j = at16_drop s (after_entries i) j ∙ ap (λ (l : List ℕ). at16 l j) head

  start : start_at s i ≡ at
  unfolding start_at head_of at16
  start = field 4 ∙ two at

  size : length_at s i ≡ length e.body
  unfolding length_at head_of at16
  size = field 6 ∙ two (length e.body)

  entry_is : EntryIs s i at e
  unfolding kind_at number_at sum_at body_at head_of at16 at32
  entry_is = record {
    kind = ap (at16 s) (sym (add-zero (after_entries i))) ∙ field 0 ∙ two e.kind;
    number = field 2 ∙ two e.number;
    start = start;
    size = size;
    sum =
        at32_drop s (after_entries i) 8
        ∙ ap (λ (l : List ℕ). at32 l 8) head
        ∙ ap₂ (λ (x y : ℕ). x + 65536 * y) (two (sum_of e.body % 65536)) (two (sum_of e.body / 65536))
        ∙ four (sum_of e.body);
    body = ap₂ (λ (l a : ℕ). take l (drop a s)) size start ∙ ap (take (length e.body)) body ∙ take-append_seam e.body bodies;
  }

head_drop : (at : ℕ) (e : Entry) (rest : List ℕ) → drop entry_bytes (head_of at e ++ rest) ≡ rest
unfolding head_of
head_drop at e rest = refl

-- and so on, entry by entry
laid_of : (s : List ℕ) (i at : ℕ) (es : List Entry) (rest : List ℕ) → drop (after_entries i) s ≡ heads_of at es ++ rest → drop at s ≡ bodies_of es → at + length (bodies_of es) ≡ length s
    → Laid s i at es
unfolding heads_of bodies_of
laid_of s i at [] rest p q l = omega arith
laid_of s i at (e ∷ es) rest p q l =
    let n = length e.body in
    let next : after_entries (suc i) ≡ after_entries i + entry_bytes = omega arith in
    let head = p ∙ append_assoc (head_of at e) (heads_of (at + n) es) rest in (
      entry_is s i at e (heads_of (at + n) es ++ rest) (bodies_of es) head q,
      laid_of s (suc i) (at + n) es rest
          (ap (λ (k : ℕ). drop k s) next ∙ sym (drop-drop entry_bytes (after_entries i) s) ∙ ap (drop entry_bytes) head ∙ head_drop at e (heads_of (at + n) es ++ rest))
          (sym (drop-drop n at s) ∙ ap (drop n) q ∙ drop-append_seam e.body (bodies_of es))
          (omega (arith, length-append e.body (bodies_of es))),
    )

-- the bytes of entries are a file of them
pub encode_lies : (es : List Entry) → Lies (encode es) es
unfolding encode count_of form_of at16
encode_lies es = record {
  count = two (length es);
  form = refl;
  laid =
      laid_of (encode es) 0 (after_entries (length es)) es (bodies_of es) refl
      (sym (drop-drop (entry_bytes * length es) head_bytes (encode es)) ∙ drop_at (heads_of (after_entries (length es)) es) (bodies_of es) (entry_bytes * length es) (length_heads (after_entries (length es)) es))
      (sym (length_encode es));
}

-- and the entries that a file says it has are these
entries_from_lem : (s : List ℕ) (i at : ℕ) (es : List Entry) → Laid s i at es → entries_from s i (length es) ≡ es
unfolding entries_from entry_at
entries_from_lem s i at [] h = refl
entries_from_lem s i at (e ∷ es) h =
    λ j. entry_by (h.0.kind j) (h.0.number j) (h.0.body j) ∷ entries_from_lem s (suc i) (at + length e.body) es h.1 j

pub lies_entries : (s : List ℕ) (es : List Entry) → Lies s es → entries_of s ≡ es
unfolding entries_of
lies_entries s es h = ap (entries_from s 0) h.count ∙ entries_from_lem s 0 (after_entries (length es)) es h.laid

pub entries_back : (es : List Entry) → entries_of (encode es) ≡ es
entries_back es = lies_entries (encode es) es (encode_lies es)
