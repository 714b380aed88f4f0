-- The body of a table holds the table, with zeros past its count; an accepted table's has no refusal.
use mathlib.Core.Path.{◌≡◌, refl, sym, ap, ap₂, ◌∙◌}
use Prim.Native.Nat.{ℕ, zero, suc, ◌+◌, ◌*◌, ◌-◌, ◌≤◌, ◌<◌, min}
use native.Mathlib.Nat.{add-zero, zero-add, le_refl}
use native.Mathlib.Omega.{arith}
use mathlib.Core.List.{List, [], ◌∷◌, ◌++◌}
use lib.ListN.{length, take, drop, get_or, replicate, get_or-append}
use lib.Seq.{take-suc, take-take, drop-drop, length-take-le, get_or-take}
use Rattle.table_row.specs.declared.Row.{Row}
use Rattle.table.specs.declared.Table.{Table}
use Rattle.table_row.specs.Row.{no_row}
use Rattle.table.specs.Rows.{rows_by, room_by, beside_of, table_by}
use Rattle.table_row.specs.Limits.{most_rows}
use Rattle.table.specs.Check.{Numbers, check_of, table_refusal}
use Rattle.table.specs.Meaning.{Accepted}
use Rattle.table.proofs.Accepted.{accepted}
use Rattle.table.proofs.Past.{past_the_count}
use Rattle.file_bytes.specs.Number.{at16, bytes16}
use Rattle.file_bodies.specs.Layout.{body_head, row_length, row_place}
use Rattle.file_bodies.specs.Body.{row_of, body_table, fields_bytes, row_bytes, rows_bytes, table_bytes}
use Rattle.file_bodies.specs.Refusal.{body_refusal}
use Rattle.file_bodies.proofs.Writing.{length_rows_bytes}
use Rattle.file_laws.specs.Valid.{Bytes}
use Rattle.file_laws.specs.FindIn.{cleared}
use Rattle.file_laws.proofs.Bytes.{bytes_none, bytes_more, bytes_join}
use Rattle.file_laws.proofs.Numbers.{two, at16_drop, bytes16_then, bytes16_small}
use Rattle.file_laws.proofs.Accepts.{body_none}

-- row k of a body that holds these rows from row i on
row_read : (b : List ℕ) (i : ℕ) (rs : List Row) (k : ℕ) → drop (row_place i) b ≡ rows_bytes rs → k < length rs → row_of b (i + k) ≡ get_or rs k no_row
unfolding rows_bytes row_bytes fields_bytes row_of at16
row_read b i [] k p h = absurd (omega arith)
row_read b i (r ∷ rs) zero p h =
    let a = row_place i in
    let field : (j : ℕ) → at16 b (a + j) ≡ at16 (row_bytes r ++ rows_bytes rs) j = λ j. at16_drop b a j ∙ ap (λ (l : List ℕ). at16 l j) p in
    ap (row_of b) (add-zero i)
    ∙ (λ n. record {
      period = (field 0 ∙ two r.period) n;
      execution = (field 2 ∙ two r.execution) n;
      deadline = (field 4 ∙ two r.deadline) n;
    })
row_read b i (r ∷ rs) (suc k) p h =
    let q : row_place (suc i) ≡ row_place i + row_length = omega arith in
    let turn : i + suc k ≡ suc i + k = omega arith in
    ap (row_of b) turn ∙ row_read b (suc i) rs k (ap (λ (n : ℕ). drop n b) q ∙ sym (drop-drop row_length (row_place i) b) ∙ ap (drop row_length) p) (omega arith)

rows_read : (b : List ℕ) (rs : List Row) (k : ℕ) → drop body_head b ≡ rows_bytes rs → k ≤ length rs → rows_by (row_of b) k ≡ take k rs
unfolding rows_by
rows_read b rs zero p h = refl
rows_read b rs (suc k) p h =
    ap₂ (λ (l : List Row) (r : Row). l ++ (r ∷ [])) (rows_read b rs k p (omega arith)) (ap (row_of b) (sym (zero-add k)) ∙ row_read b 0 rs k p h)
    ∙ sym (take-suc rs k no_row h)

-- rows that fit have bytes
pub record Small (r : Row) : Type 0 where
  pub period : r.period < 65536
  pub execution : r.execution < 65536
  pub deadline : r.deadline < 65536

row_bytes_lem : (r : Row) → Small r → Bytes (row_bytes r)
unfolding row_bytes fields_bytes
row_bytes_lem r h =
    bytes16_then r.period (bytes16 r.execution ++ bytes16 r.deadline) h.period
    (bytes16_then r.execution (bytes16 r.deadline) h.execution (bytes16_small r.deadline h.deadline))

rows_bytes_lem : (rs : List Row) → ((i : ℕ) → i < length rs → Small (get_or rs i no_row)) → Bytes (rows_bytes rs)
unfolding rows_bytes
rows_bytes_lem [] f = bytes_none
rows_bytes_lem (r ∷ rs) f = bytes_join (row_bytes r) (rows_bytes rs) (row_bytes_lem r (f 0 (omega arith))) (rows_bytes_lem rs (λ i h. f (suc i) (omega arith)))

module _ (t : Table) (room : length t.rows ≡ most_rows) (fine : (table_refusal t).no ≡ 0) where
  -- what the check says of the table
  within : Accepted t (check_of t).frame
  within = accepted t fine

  length_counted : length (take t.count t.rows) ≡ t.count
  length_counted = length-take-le t.count t.rows (omega (arith, within.count_high))

  -- the body of a table holds the table, with zeros past its count
  pub bytes_back : body_table (table_bytes t) ≡ cleared t
  unfolding body_table table_bytes room_by
  bytes_back =
      let c = t.count in
      let m : min c most_rows ≡ c = omega (arith, within.count_high) in
      let same : rows_by (row_of (table_bytes t)) c ≡ take c t.rows =
      rows_read (table_bytes t) (take c t.rows) c refl (omega (arith, length_counted)) ∙ take-take c c t.rows (le_refl c) in
      let filled = ap (λ (n : ℕ). rows_by (row_of (table_bytes t)) n ++ replicate (most_rows - n) no_row) m ∙ ap (λ (l : List Row). l ++ replicate (most_rows - c) no_row) same in
      λ j. table_by (beside_of t) c (filled j)

  -- so the body of an accepted table has no refusal, and is a list of bytes
  pub bytes_fine : (body_refusal (table_bytes t)).no ≡ 0
  unfolding table_bytes
  bytes_fine =
      let c = t.count in
      let past : check_of t ≡ check_of (cleared t) =
      past_the_count t (cleared t) (record {
        beside = refl;
        count = refl;
        rows = λ i h. sym (get_or-take c t.rows i no_row h) ∙ sym (get_or-append (take c t.rows) _ no_row i (omega (arith, length_counted)));
      }) in
      body_none (table_bytes t) (record {
        four = omega arith;
        zeroed = refl;
        long = omega (arith, length_rows_bytes (take c t.rows), ap (λ (n : ℕ). row_length * n) length_counted);
        table = ap (λ (u : Table). (check_of u).refusal.no) bytes_back ∙ ap (λ (n : Numbers). n.refusal.no) (sym past) ∙ fine;
      })

  pub bytes_bytes : Bytes (table_bytes t)
  unfolding table_bytes
  bytes_bytes =
      let c = t.count in
      let rs = take c t.rows in
      bytes_more t.processors (t.depth ∷ c ∷ 0 ∷ rows_bytes rs) (omega (arith, within.m_high))
      (bytes_more t.depth (c ∷ 0 ∷ rows_bytes rs) (omega (arith, within.x_high))
      (bytes_more c (0 ∷ rows_bytes rs) (omega (arith, within.count_high))
      (bytes_more 0 (rows_bytes rs) (omega arith)
      (rows_bytes_lem rs (λ i h. small i (omega (arith, length_counted)))))))
    where
      small : (i : ℕ) → i < t.count → Small (get_or (take t.count t.rows) i no_row)
      small i h =
          rw (get_or-take t.count t.rows i no_row h)
          (record {
            period = omega (arith, within.period_high i h);
            execution = omega (arith, within.period_high i h, within.apart i h, within.room i h);
            deadline = omega (arith, within.period_high i h, within.apart i h);
          })
