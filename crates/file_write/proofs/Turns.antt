-- How the entries of the sources are written one after the other, and how many bytes that takes.
use Rattle.std.proofs.Common.{◌≡◌, ℕ, ◌+◌, ◌*◌, ◌<◌, ◌≤◌, List, [], ◌∷◌, ◌++◌, map, length, take, drop, get_or, refl, sym, ap, ap₂, ◌∙◌, append_assoc, arith, length-append, length-take, length-drop, take-append-drop}
use Rattle.std.proofs.Math.Seq.{take-append_seam, drop-append-add}
use Rattle.std.proofs.lemmas.List.{append-nil, map-append, map_more, length-map, length-take-le, take_all, take-append-le, drop-append-le}
use Rattle.file_bytes.specs.Number.{bytes16}
use Rattle.file_bytes.specs.Over.{over}
use Rattle.file_bytes.proofs.Overs.{over_room, length_over, next_over}
use Rattle.file_entries.specs.Limits.{the_form, head_bytes, entry_bytes, after_entries}
use Rattle.file_entries.specs.Entries.{body_at}
use Rattle.file_contents.specs.File.{Entry, head_of, heads_of, bodies_of, encode, entry_at}
use Rattle.file_contents.proofs.Files.{heads_append, length_head, length_heads, length_encode}
use Rattle.file_write.specs.declared.Source.{Source}
use Rattle.file_write.specs.declared.Source.TheVariants.{New, Old}
use Rattle.file_write.specs.Sources.{source_entry}

-- bytes written after the first part of a list, and in it
over_after : (xs ys : List ℕ) (at : ℕ) (bs : List ℕ) → at ≡ length xs → length bs ≤ length ys → over (xs ++ ys) at bs ≡ xs ++ (bs ++ drop (length bs) ys)
over_after xs ys at bs e h =
    let l = length-append xs ys in
    ap (λ (k : ℕ). over (xs ++ ys) k bs) e
    ∙ over_room (xs ++ ys) (length xs) bs (omega arith)
    ∙ ap₂ (λ (l r : List ℕ). l ++ (bs ++ r)) (take-append_seam xs ys) (drop-append-add xs ys (length bs))

over_front : (xs ys : List ℕ) (at : ℕ) (bs : List ℕ) → at + length bs ≤ length xs → over (xs ++ ys) at bs ≡ over xs at bs ++ ys
over_front xs ys at bs h =
    let l = length-append xs ys in
    over_room (xs ++ ys) at bs (omega arith)
    ∙ ap₂ (λ (l r : List ℕ). l ++ (bs ++ r)) (take-append-le at xs ys (omega arith)) (drop-append-le (at + length bs) xs ys h)
    ∙ ap (λ (l : List ℕ). take at xs ++ l) (sym (append_assoc bs (drop (at + length bs) xs) ys))
    ∙ sym (append_assoc (take at xs) (bs ++ drop (at + length bs) xs) ys)
    ∙ ap (λ (l : List ℕ). l ++ ys) (sym (over_room xs at bs h))

-- of two parts that do not meet either may be written first
over_swap : (o : List ℕ) (a : ℕ) (xs : List ℕ) (b : ℕ) (ys : List ℕ) → a + length xs ≤ b → b + length ys ≤ length o → over (over o b ys) a xs ≡ over (over o a xs) b ys
over_swap o a xs b ys h g =
    let f = take b o in
    let r = drop b o in
    let l = length-take-le b o (omega arith) in
    let m : b ≡ length (over f a xs) = sym (length_over f a xs ∙ l) in
    let q : length ys ≤ length r = simp length-drop (omega arith) in
    ap (λ (l : List ℕ). over (over l b ys) a xs) (sym (take-append-drop b o))
    ∙ ap (λ (l : List ℕ). over l a xs) (over_after f r b ys (sym l) q)
    ∙ over_front f (ys ++ drop (length ys) r) a xs (omega arith)
    ∙ sym (over_after (over f a xs) r b ys m q)
    ∙ ap (λ (l : List ℕ). over l b ys) (sym (over_front f r a xs (omega arith)))
    ∙ ap (λ (l : List ℕ). over (over l a xs) b ys) (take-append-drop b o)

bodies_append : (xs ys : List Entry) → bodies_of (xs ++ ys) ≡ bodies_of xs ++ bodies_of ys
unfolding bodies_of
bodies_append [] ys = refl
bodies_append (x ∷ xs) ys = ap (λ (l : List ℕ). x.body ++ l) (bodies_append xs ys) ∙ sym (append_assoc x.body (bodies_of xs) (bodies_of ys))

module _ (f : Source → Entry) (sources : List Source) where
  -- the entries of the first j sources, and the one after them
  abbrev first : ℕ → List Entry
  first j = map f (take j sources)

  abbrev here : ℕ → Entry
  here j = f (get_or sources j New)

  abbrev at : ℕ
  at = after_entries (length sources)

  -- the first body starts within the file
  pub starts : at ≤ length (encode (map f sources))
  starts = let n = length-map sources f in let l = length_encode (map f sources) in omega arith

  module _ (j : ℕ) (h : j < length sources) where
    bodies_next : bodies_of (first (j + 1)) ≡ bodies_of (first j) ++ (here j).body
    unfolding bodies_of
    bodies_next =
        ap bodies_of (map_more f sources j New h)
        ∙ bodies_append (first j) (here j ∷ [])
        ∙ ap (λ (l : List ℕ). bodies_of (first j) ++ l) (append-nil (here j).body)

    heads_next : heads_of at (first (j + 1)) ≡ heads_of at (first j) ++ head_of (at + length (bodies_of (first j))) (here j)
    unfolding heads_of
    heads_next =
        ap (heads_of at) (map_more f sources j New h)
        ∙ heads_append at (first j) (here j ∷ [])
        ∙ ap (λ (l : List ℕ). heads_of at (first j) ++ l) (append-nil (head_of (at + length (bodies_of (first j))) (here j)))

    pub length_next : at + length (bodies_of (first j)) + length (here j).body ≡ at + length (bodies_of (first (j + 1)))
    length_next = let l = length-append (bodies_of (first j)) (here j).body in omega (arith, ap length bodies_next)

    -- the next body ends within the file
    pub fits : at + length (bodies_of (first j)) + length (here j).body ≤ length (encode (map f sources))
    fits =
        let e = ap length (ap (λ (l : List Source). bodies_of (map f l)) (sym (take-append-drop (j + 1) sources)) ∙ ap bodies_of (map-append f (take (j + 1) sources) (drop (j + 1) sources)) ∙ bodies_append (first (j + 1)) (map f (drop (j + 1) sources))) in
        omega (arith, e, length-append (bodies_of (first (j + 1))) (bodies_of (map f (drop (j + 1) sources))), length_next, length_encode (map f sources), length-map sources f)

    -- one entry more is written
    pub turn : (start : ℕ) → start ≡ at + length (bodies_of (first j)) → (o o₁ o₂ : List ℕ) → length (encode (map f sources)) ≤ length o
        → o₁ ≡ over (over o head_bytes (heads_of at (first j))) at (bodies_of (first j))
        → o₂ ≡ over (over o₁ (after_entries j) (head_of start (here j))) start (here j).body
        → o₂ ≡ over (over o head_bytes (heads_of at (first (j + 1)))) at (bodies_of (first (j + 1)))
    turn start e o o₁ o₂ room p q =
        let k = after_entries j in
        let heads = heads_of at (first j) in
        let head = head_of start (here j) in
        let bodies = bodies_of (first j) in
        let n : length heads ≡ entry_bytes * j = omega (arith, length_heads at (first j), length-map (take j sources) f, length-take-le j sources (omega arith)) in
        let l = length_head start (here j) in
        let w = fits in
        let next = over o head_bytes (heads_of at (first (j + 1))) in
        let one_more : over (over o head_bytes heads) k head ≡ next =
        next_over o _ _ head_bytes k heads head refl refl (omega arith) (omega arith)
        ∙ ap (over o head_bytes) (ap (λ (m : ℕ). heads ++ head_of m (here j)) e ∙ sym heads_next) in
        next_over next _ o₂ at start bodies (here j).body refl
        (q
        ∙ ap (λ (l : List ℕ). over (over l k head) start (here j).body) p
        ∙ ap (λ (l : List ℕ). over l start (here j).body) (over_swap (over o head_bytes heads) k head at bodies (omega arith) (omega (arith, length_over o head_bytes heads)) ∙ ap (λ (l : List ℕ). over l at bodies) one_more))
        e
        (omega (arith, length_over o head_bytes (heads_of at (first (j + 1)))))
        ∙ ap (over next at) (sym bodies_next)

  -- all of them, after the first four bytes, are the file
  module _ (j : ℕ) (all : length sources ≤ j) where
    pub whole : (o o₁ o₂ o₃ : List ℕ) → length (encode (map f sources)) ≤ length o → o₁ ≡ over o 0 (bytes16 (length sources)) → o₂ ≡ over o₁ 2 (bytes16 the_form)
        → o₃ ≡ over (over o₂ head_bytes (heads_of at (first j))) at (bodies_of (first j)) → o₃ ≡ over o 0 (encode (map f sources))
    unfolding encode
    whole o o₁ o₂ o₃ room p q r =
        let es = map f sources in
        let heads = heads_of at es in
        let n = length-map sources f in
        let k = length_heads at es in
        let l = length_encode es in
        let p₂ = next_over o o₁ o₂ 0 2 (bytes16 (length sources)) (bytes16 the_form) p q refl (omega arith) in
        let p₃ = next_over o o₂ (over o₂ head_bytes heads) 0 head_bytes _ heads p₂ refl refl (omega arith) in
        let p₄ = next_over o _ o₃ 0 at _ (bodies_of es) p₃ (r ∙ ap (λ (l : List Source). over (over o₂ head_bytes (heads_of at (map f l))) at (bodies_of (map f l))) (take_all j sources all)) (omega arith) (omega arith) in
        p₄
        ∙ ap (over o 0) (append_assoc (bytes16 (length sources) ++ bytes16 the_form) heads (bodies_of es)
        ∙ ap (λ (m : ℕ). (bytes16 m ++ bytes16 the_form) ++ (heads_of (after_entries m) es ++ bodies_of es)) (sym n))

    pub length_all : at + length (bodies_of (first j)) ≡ length (encode (map f sources))
    length_all =
        ap (λ (l : List Source). at + length (bodies_of (map f l))) (take_all j sources all)
        ∙ (let n = length-map sources f in let k = length_encode (map f sources) in omega arith)

-- a body is no longer than the file that it comes from, or than the new one
pub body_short : (s : List ℕ) (new : Entry) (k : Source) (most : ℕ) → length s ≤ most → length new.body ≤ most → length (source_entry s new k).body ≤ most
unfolding entry_at body_at
body_short s new New most h g = g
body_short s new (Old i) most h g = simp (length-take, length-drop) (omega arith)
