-- How a table's body is written, part after part.
use mathlib.Core.Path.{◌≡◌, refl, sym, ap, ◌∙◌}
use Prim.Native.Nat.{ℕ, ◌+◌, ◌*◌, ◌≤◌, ◌<◌, min}
use native.Mathlib.Numerals.{add-one}
use native.Mathlib.Omega.{arith}
use mathlib.Core.List.{List, [], ◌∷◌, ◌++◌, append_assoc, append-nil}
use lib.ListN.{length, take, get_or}
use lib.Seq.{take-suc}
use Rattle.std.proofs.lemmas.List.{length-take}
use Rattle.table_row.specs.declared.Row.{Row}
use Rattle.table.specs.declared.Table.{Table}
use Rattle.table_row.specs.Limits.{most_rows}
use Rattle.table_row.specs.Row.{no_row}
use Rattle.file_bytes.specs.Over.{over}
use Rattle.file_bytes.proofs.Overs.{next_over}
use Rattle.file_bodies.specs.Layout.{body_head, row_length, row_place, body_length, most_body}
use Rattle.file_bodies.specs.Body.{fields_bytes, row_bytes, rows_bytes, table_bytes}

pub rows_append : (xs ys : List Row) → rows_bytes (xs ++ ys) ≡ rows_bytes xs ++ rows_bytes ys
unfolding rows_bytes
rows_append [] ys = refl
rows_append (x ∷ xs) ys = rw (rows_append xs ys, append_assoc)

pub length_rows_bytes : (rs : List Row) → length (rows_bytes rs) ≡ row_length * length rs
unfolding rows_bytes row_bytes fields_bytes
length_rows_bytes [] = refl
length_rows_bytes (r ∷ rs) = let e = length_rows_bytes rs in omega arith

rows_one : (rs : List Row) (i : ℕ) → i < length rs → rows_bytes (take (i + 1) rs) ≡ rows_bytes (take i rs) ++ row_bytes (get_or rs i no_row)
unfolding rows_bytes
rows_one rs i h = rw (add-one i, take-suc rs i no_row h, rows_append, append-nil)

-- one row more is written
pub row_next : (o o₁ o₂ : List ℕ) (rs : List Row) (i : ℕ) → i < length rs → row_place (i + 1) ≤ length o → o₁ ≡ over o body_head (rows_bytes (take i rs)) → o₂ ≡ over o₁ (row_place i) (row_bytes (get_or rs i no_row))
    → o₂ ≡ over o body_head (rows_bytes (take (i + 1) rs))
unfolding row_bytes fields_bytes
row_next o o₁ o₂ rs i h l p q =
    let e = length_rows_bytes (take i rs) in
    let f = length-take i rs in
    next_over o o₁ o₂ body_head (row_place i) (rows_bytes (take i rs)) (row_bytes (get_or rs i no_row)) p q (omega arith) (omega arith)
    ∙ ap (over o body_head) (sym (rows_one rs i h))

pub length_table : (t : Table) → length t.rows ≡ most_rows → length (table_bytes t) ≡ body_length (min t.count most_rows)
unfolding table_bytes
length_table t w = omega (arith, length_rows_bytes (take t.count t.rows), length-take t.count t.rows)

-- the four bytes and the rows are the body
pub table_written : (o o₁ o₂ : List ℕ) (t : Table) → length t.rows ≡ most_rows → most_body ≤ length o → o₁ ≡ over o 0 (t.processors ∷ t.depth ∷ t.count ∷ 0 ∷ [])
    → o₂ ≡ over o₁ body_head (rows_bytes (take t.count t.rows)) → o₂ ≡ over o 0 (table_bytes t)
unfolding table_bytes
table_written o o₁ o₂ t w h p q =
    let l = length_table t w in
    next_over o o₁ o₂ 0 body_head (t.processors ∷ t.depth ∷ t.count ∷ 0 ∷ []) (rows_bytes (take t.count t.rows)) p q refl (omega arith)
