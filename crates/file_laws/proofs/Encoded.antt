-- The bytes of valid entries are bytes.
use Rattle.std.proofs.Common.{Some, None}
use mathlib.Core.Path.{◌≡◌, refl}
use mathlib.Core.Bool.{Bool, true, false, cond}
use Prim.Native.Nat.{ℕ, ◌+◌, ◌/◌, ◌%◌, ◌<◌}
use native.Mathlib.Omega.{arith}
use mathlib.Core.List.{List, [], ◌∷◌, ◌++◌}
use lib.ListN.{length, length-append}
use lib.Dec.{ltb, eqb}
use borrow.Author.Tests.{eqb-true, ltb-true}
use Rattle.basics.proofs.Bools.{clash}
use Rattle.file_bytes.specs.Number.{bytes16}
use Rattle.file_bytes.specs.Sum.{sum_from, sum_of}
use Rattle.file_entries.specs.Limits.{the_form, after_entries}
use Rattle.file_kinds.specs.declared.Kind.{Kind}
use Rattle.basics.specs.When.{when}
use Rattle.file_kinds.specs.Kinds.{table_kind, kind_of, is_refused}
use Rattle.file_contents.specs.File.{Entry, head_of, heads_of, bodies_of, encode}
use Rattle.file_contents.proofs.Files.{length_encode}
use Rattle.file_laws.specs.Valid.{Bytes, ValidEntry, Each, ValidEntries}
use Rattle.file_laws.proofs.Bytes.{bytes_none, bytes_join}
use Rattle.file_laws.proofs.Numbers.{bytes16_then, bytes16_small}

-- a sum fits four bytes
sum_small : (a b : ℕ) (xs : List ℕ) → a < 65536 → b < 65536 → sum_from a b xs < 4294967296
unfolding sum_from
sum_small a b [] h g = omega arith
sum_small a b (x ∷ xs) h g = sum_small ((a + x) % 65536) ((b + (a + x) % 65536) % 65536) xs (omega arith) (omega arith)

-- a kind that is not refused fits one
kind_small : (k : ℕ) → is_refused (kind_of k) ≡ false → k < 256
unfolding kind_of when
kind_small k = go (eqb k table_kind) (ltb k 128) (ltb k 256) refl refl
  where
    go : (a b c : Bool) → eqb k table_kind ≡ a → ltb k 256 ≡ c → is_refused (cond a (Some Kind.Table) (cond b None (cond c (Some Kind.Note) None))) ≡ false → k < 256
    go true b c p q e = omega (arith, eqb-true k table_kind p)
    go false true c p q e = clash refl e
    go false false true p q e = ltb-true _ _ q
    go false false false p q e = clash refl e

head_bytes_lem : (at : ℕ) (e : Entry) → ValidEntry e → at < 65536 → length e.body < 65536 → Bytes (head_of at e)
unfolding head_of sum_of
head_bytes_lem at e h l m =
    let total = sum_of e.body in
    let fits = sum_small 0 0 e.body (omega arith) (omega arith) in
    let sum = bytes16 (total % 65536) ++ bytes16 (total / 65536) in
    let size = bytes16 (length e.body) ++ sum in
    let start = bytes16 at ++ size in
    let number = bytes16 e.number ++ start in
    bytes16_then e.kind number (omega (arith, kind_small e.kind h.kind))
    (bytes16_then e.number start (omega (arith, h.number))
    (bytes16_then at size l
    (bytes16_then (length e.body) sum m
    (bytes16_then (total % 65536) (bytes16 (total / 65536)) (omega arith) (bytes16_small (total / 65536) (omega arith))))))

heads_bytes : (at : ℕ) (es : List Entry) → Each ValidEntry es → at + length (bodies_of es) < 65536 → Bytes (heads_of at es)
unfolding heads_of bodies_of
heads_bytes at [] h l = bytes_none
heads_bytes at (e ∷ es) h l =
    let m = length-append e.body (bodies_of es) in
    bytes_join (head_of at e) (heads_of (at + length e.body) es)
    (head_bytes_lem at e h.0 (omega arith) (omega arith)) (heads_bytes (at + length e.body) es h.1 (omega arith))

bodies_bytes : (es : List Entry) → Each ValidEntry es → Bytes (bodies_of es)
unfolding bodies_of
bodies_bytes [] h = bytes_none
bodies_bytes (e ∷ es) h = bytes_join e.body (bodies_of es) h.0.bytes (bodies_bytes es h.1)

pub encode_bytes : (es : List Entry) → ValidEntries es → Bytes (encode es)
unfolding encode
encode_bytes es v =
    let n = length es in
    let heads = heads_of (after_entries n) es in
    bytes16_then n (bytes16 the_form ++ (heads ++ bodies_of es)) (omega (arith, v.few))
    (bytes16_then the_form (heads ++ bodies_of es) (omega arith)
    (bytes_join heads (bodies_of es) (heads_bytes (after_entries n) es v.each (omega (arith, v.short, length_encode es))) (bodies_bytes es v.each)))
