-- A body with no refusal is the body of its table.
use mathlib.Core.Path.{◌≡◌, refl, sym, ap, ap₂, ◌∙◌}
use Prim.Native.Nat.{ℕ, zero, suc, ◌+◌, ◌-◌, ◌≤◌, min}
use native.Mathlib.Nat.{add-zero}
use native.Mathlib.Omega.{arith}
use mathlib.Core.List.{List, [], ◌∷◌, ◌++◌, append_assoc, append-nil}
use lib.ListN.{length, take, drop, replicate}
use lib.Seq.{take_at, drop-length}
use Rattle.table_row.specs.declared.Row.{Row}
use Rattle.table_row.specs.Limits.{most_rows}
use Rattle.table_row.specs.Row.{no_row}
use Rattle.table.specs.Rows.{rows_by, room_by}
use Rattle.table.proofs.Accepted.{accepted}
use Rattle.file_bodies.specs.Layout.{body_head, row_length, row_place, processors_in, depth_in, count_in, zero_in}
use Rattle.file_bodies.specs.Body.{row_of, body_table, fields_bytes, row_bytes, rows_bytes, table_bytes}
use Rattle.file_bodies.specs.Refusal.{body_refusal}
use Rattle.table.proofs.RowsBy.{length_rows}
use Rattle.file_bodies.proofs.Writing.{rows_append}
use Rattle.file_bodies.proofs.Refusals.{body_is_fine}
use Rattle.file_laws.specs.Valid.{Bytes}
use Rattle.file_laws.proofs.Numbers.{pair}

-- the rows of a body, in front of what follows them
row_back : (b : List ℕ) (k : ℕ) → Bytes b → row_place (k + 1) ≤ length b → row_bytes (row_of b k) ++ drop (row_place k + row_length) b ≡ drop (row_place k) b
unfolding row_bytes fields_bytes row_of
row_back b k h l =
    let a = row_place k in
    pair b a 0 _ h (omega arith) (pair b a 2 _ h (omega arith) (pair b a 4 _ h (omega arith) refl))
    ∙ ap (λ (n : ℕ). drop n b) (add-zero a)

rows_back : (b : List ℕ) (k : ℕ) → Bytes b → row_place k ≤ length b → rows_bytes (rows_by (row_of b) k) ++ drop (row_place k) b ≡ drop body_head b
unfolding rows_by rows_bytes
rows_back b zero h l = refl
rows_back b (suc k) h l =
    let p : row_place (suc k) ≡ row_place k + row_length = omega arith in
    let r = row_bytes (row_of b k) in
    ap₂ (λ (x y : List ℕ). x ++ y) (rows_append (rows_by (row_of b) k) (row_of b k ∷ []) ∙ ap (λ (l : List ℕ). rows_bytes (rows_by (row_of b) k) ++ l) (append-nil r)) (ap (λ (n : ℕ). drop n b) p)
    ∙ append_assoc (rows_bytes (rows_by (row_of b) k)) r (drop (row_place k + row_length) b)
    ∙ ap (λ (l : List ℕ). rows_bytes (rows_by (row_of b) k) ++ l) (row_back b k h (omega arith))
    ∙ rows_back b k h (omega arith)

first_four : (b : List ℕ) → body_head ≤ length b → processors_in b ∷ depth_in b ∷ count_in b ∷ zero_in b ∷ drop body_head b ≡ b
first_four [] h = absurd (omega arith)
first_four (w ∷ []) h = absurd (omega arith)
first_four (w ∷ x ∷ []) h = absurd (omega arith)
first_four (w ∷ x ∷ y ∷ []) h = absurd (omega arith)
first_four (w ∷ x ∷ y ∷ z ∷ r) h = refl

-- a body with no refusal is the body of its table
pub table_back : (b : List ℕ) → Bytes b → (body_refusal b).no ≡ 0 → table_bytes (body_table b) ≡ b
unfolding table_bytes body_table room_by
table_back b h e =
    let f = body_is_fine b e in
    let c = count_in b in
    let few = (accepted (body_table b) f.table).count_high in
    let m : min c most_rows ≡ c = omega arith in
    let l = f.long in
    let whole : drop (row_place c) b ≡ [] = ap (λ (n : ℕ). drop n b) (sym l) ∙ drop-length b in
    ap (λ (r : List Row). processors_in b ∷ depth_in b ∷ c ∷ 0 ∷ rows_bytes r)
    (ap (λ (n : ℕ). take c (rows_by (row_of b) n ++ replicate (most_rows - n) no_row)) m ∙ take_at (rows_by (row_of b) c) _ c (length_rows (row_of b) c))
    ∙ ap₂ (λ (z : ℕ) (r : List ℕ). processors_in b ∷ depth_in b ∷ c ∷ z ∷ r) (sym f.zeroed)
    (sym (append-nil (rows_bytes (rows_by (row_of b) c))) ∙ ap (λ (l : List ℕ). rows_bytes (rows_by (row_of b) c) ++ l) (sym whole) ∙ rows_back b c h (omega arith))
    ∙ first_four b f.four
