-- "Rows past the count never matter": tables that differ at the most in rows past the count are put alike.
use mathlib.Core.Path.{◌≡◌, refl, sym, ap, ap₂, ◌∙◌}
use mathlib.Core.Bool.{Bool, true, false, cond}
use mathlib.Core.Logic.{⊎_elim}
use Prim.Native.Nat.{ℕ, zero, suc, ◌≤◌, ◌<◌, zero-le}
use native.Mathlib.Omega.{arith}
use mathlib.Core.List.{List, [], ◌∷◌, ◌++◌}
use lib.ListN.{length, take, drop, get_or, get_or-eq_default}
use lib.Seq.{take-suc}
use lib.Dec.{leb, eqb}
use borrow.Author.Tests.{ne_eqb, eqb-true, eqb-false}
use Rattle.basics.specs.When.{when, unless}
use Rattle.basics.proofs.Bools.{lt_or_ge}
use Rattle.refusal.specs.Refusal.{Numbered, refuse, none}
use Rattle.refusal.specs.Order.{first}
use Rattle.refusal.proofs.Order.{first_here, first_fine}
use Rattle.table_row.specs.declared.Row.{Row}
use Rattle.table.specs.declared.Table.{Table}
use Rattle.table_row.specs.Row.{no_row}
use Rattle.table.specs.Rows.{row_at, Alike}
use Rattle.table.specs.Check.{Numbers, table_refusal}
use Rattle.table.proofs.Accepted.{accepted}
use Rattle.table.proofs.Past.{past_the_count}
use Rattle.file_entries.specs.Limits.{most_entries, most_bytes}
use Rattle.file_kinds.specs.Kinds.{table_kind}
use Rattle.file_contents.specs.File.{entry_by, encode, entries_of}
use Rattle.file_bodies.specs.Body.{rows_bytes, table_bytes}
use Rattle.file_check.specs.Check.{file_refusal}
use Rattle.file_new.specs.New.{put_entry, new_entries, new_file, note_has, put_refusal}
use Rattle.file_put.specs.Put.{put_of, put_out}

-- an accepted table has every row that it counts
rows_there : (t : Table) → (table_refusal t).no ≡ 0 → (k : ℕ) → k ≤ t.count → k ≤ length t.rows
rows_there t fine zero h = zero-le
rows_there t fine (suc k) h = ⊎_elim (λ l. l) missing (lt_or_ge k (length t.rows))
  where
    missing : length t.rows ≤ k → suc k ≤ length t.rows
    missing g =
        let some = (accepted t fine).some k h in
        let none : (row_at t k).execution ≡ 0 = ap (λ (r : Row). r.execution) (get_or-eq_default t.rows no_row {n = k} g) in
        absurd (omega arith)

take_same : (xs ys : List Row) (k : ℕ) → k ≤ length xs → k ≤ length ys → ((i : ℕ) → i < k → get_or xs i no_row ≡ get_or ys i no_row) → take k xs ≡ take k ys
take_same xs ys zero h g e = refl
take_same xs ys (suc k) h g e =
    take-suc xs k no_row h
    ∙ ap₂ (λ (l : List Row) (r : Row). l ++ (r ∷ [])) (take_same xs ys k (omega arith) (omega arith) (λ i l. e i (omega arith))) (e k (omega arith))
    ∙ sym (take-suc ys k no_row g)

module _ (t u : Table) (alike : Alike t u) where
  refusal_same : table_refusal t ≡ table_refusal u
  refusal_same = ap (λ (n : Numbers). n.refusal) (past_the_count t u alike)

  -- an accepted one has the same body
  bytes_same : (table_refusal t).no ≡ 0 → table_bytes t ≡ table_bytes u
  unfolding table_bytes
  bytes_same fine =
      let other = sym (ap (λ (r : Numbered). r.no) refusal_same) ∙ fine in
      let rows : take t.count t.rows ≡ take u.count u.rows =
      take_same t.rows u.rows t.count (rows_there t fine t.count (omega arith)) (rows_there u other t.count (omega (arith, alike.count))) alike.rows
      ∙ ap (λ (k : ℕ). take k u.rows) alike.count in
      λ j. (alike.beside j).processors ∷ (alike.beside j).depth ∷ alike.count j ∷ 0 ∷ rows_bytes (rows j)

-- a refused table is refused before it is put anywhere
refused_first : (s : List ℕ) (number : ℕ) (t : Table) (room : ℕ) → ((table_refusal t).no ≡ 0 → ⊥) → put_refusal s number t room ≡ first (file_refusal s) (table_refusal t)
unfolding put_refusal
refused_first s number t room n = sym (ap (first (file_refusal s)) (first_here (table_refusal t) _ n))

module _ (s : List ℕ) (number : ℕ) (t u : Table) (alike : Alike t u) where
  -- where nothing is put
  none_put : ((table_refusal t).no ≡ 0 → ⊥) → (room : ℕ) → (put_refusal s number t room ≡ put_refusal s number u room) × ((put_refusal s number u room).no ≡ 0 → ⊥)
  none_put n room =
      let m : (table_refusal u).no ≡ 0 → ⊥ = λ z. n (ap (λ (r : Numbered). r.no) (refusal_same t u alike) ∙ z) in
      let e = refused_first s number u room m in (
        refused_first s number t room n ∙ ap (first (file_refusal s)) (refusal_same t u alike) ∙ sym e,
        λ z. m (first_fine (file_refusal s) (table_refusal u) (sym (ap (λ (r : Numbered). r.no) e) ∙ z)).1,
      )

  -- where the same entries are
  module _ (fine : (table_refusal t).no ≡ 0) where
    entries_same : new_entries s number t ≡ new_entries s number u
    unfolding new_entries
    entries_same = ap (λ (b : List ℕ). put_entry (entries_of s) (entry_by table_kind number b)) (bytes_same t u alike fine)

    file_same : new_file s number t ≡ new_file s number u
    unfolding new_file
    file_same = ap encode entries_same

    put_same : (room : ℕ) → put_refusal s number t room ≡ put_refusal s number u room
    unfolding put_refusal
    put_same room = λ j.
        first (file_refusal s)
        (first (refusal_same t u alike j)
        (when (note_has s number) (refuse 17)
        (unless (leb (length (entries_same j)) most_entries) (refuse 11)
        (unless (leb (length (file_same j)) most_bytes) (refuse 9)
        (unless (leb (length (file_same j)) room) (refuse 19) none)))))

  pub put_past_count : ((room : ℕ) → put_of s number t room ≡ put_of s number u room) × ((out : List ℕ) → put_out s number t out ≡ put_out s number u out)
  unfolding put_of put_out
  put_past_count = go (eqb (table_refusal t).no 0) refl
    where
      go : (b : Bool) → eqb (table_refusal t).no 0 ≡ b
          → ((room : ℕ) → put_of s number t room ≡ put_of s number u room) × ((out : List ℕ) → put_out s number t out ≡ put_out s number u out)
      go true e =
          let fine = eqb-true _ _ e in (
            λ room. λ j. record { refusal = put_same fine room j; length = cond (eqb (put_same fine room j).no 0) (length (file_same fine j)) 0 },
            λ out. λ j. cond (eqb (put_same fine (length out) j).no 0) (file_same fine j ++ drop (length (file_same fine j)) out) out,
          )
      go false e =
          let nothing = none_put (eqb-false _ _ e) in (
            λ room. rw ((nothing room).0, ne_eqb _ 0 (nothing room).1),
            λ out. rw ((nothing (length out)).0, ne_eqb _ 0 (nothing (length out)).1),
          )
