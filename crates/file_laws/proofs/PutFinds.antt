-- Find in a list of entries with a table put into it.
use Rattle.std.proofs.Common.{Some, None}
use mathlib.Core.Path.{◌≡◌, refl, sym, ap, ◌∙◌}
use mathlib.Core.Bool.{Bool, true, false, cond}
use Prim.Native.Nat.{ℕ}
use native.Mathlib.Omega.{arith}
use mathlib.Core.List.{List, [], ◌∷◌}
use lib.Dec.{ltb, eqb}
use borrow.Author.Tests.{eq-eqb, ne_eqb, eqb-true}
use Rattle.table.specs.declared.Table.{Table}
use Rattle.file_kinds.specs.declared.Kind.{Kind}
use Rattle.basics.specs.When.{when}
use Rattle.file_kinds.specs.Kinds.{table_kind, kind_of, is_table}
use Rattle.file_contents.specs.File.{Entry, entry_by}
use Rattle.file_bodies.specs.Body.{body_table, table_bytes}
use Rattle.table.specs.Check.{table_refusal}
use Rattle.file_bodies.proofs.Refusals.{body_is_fine}
use Rattle.file_check.specs.Find.{Found}
use Rattle.file_new.specs.New.{table_entry, put_entry}
use Rattle.file_laws.specs.Valid.{ValidEntry, Each}
use Rattle.file_laws.specs.FindIn.{found, lost, find_in}
use Rattle.file_laws.proofs.Bodies.{table_back}

-- the new table under its number, and every other number as before
module _ (number : ℕ) (t : Table) where
  find_here : (es : List Entry) → find_in (table_entry number t ∷ es) number ≡ found (body_table (table_bytes t))
  unfolding find_in kind_of when
  find_here es = rw (eq-eqb number number refl)

  pub find_put : (es : List Entry) → find_in (put_entry es (table_entry number t)) number ≡ found (body_table (table_bytes t))
  unfolding find_in put_entry
  find_put [] = find_here []
  find_put (d ∷ ds) = go (eqb d.number number) refl (find_put ds)
    where
      go : (b : Bool) → eqb d.number number ≡ b → find_in (put_entry ds (table_entry number t)) number ≡ found (body_table (table_bytes t))
          → find_in (cond b (table_entry number t ∷ ds) (d ∷ put_entry ds (table_entry number t))) number ≡ found (body_table (table_bytes t))
      go true e next = find_here ds
      go false e next = rw e next

pub find_other : (es : List Entry) (e : Entry) (number : ℕ) → (number ≡ e.number → ⊥) → find_in (put_entry es e) number ≡ find_in es number
unfolding find_in put_entry
find_other [] e number n = rw (ne_eqb e.number number (λ q. n (sym q)))
find_other (d ∷ ds) e number n = go (eqb d.number e.number) refl (find_other ds e number n)
  where
    go : (b : Bool) → eqb d.number e.number ≡ b → find_in (put_entry ds e) number ≡ find_in ds number
        → find_in (cond b (e ∷ ds) (d ∷ put_entry ds e)) number ≡ find_in (d ∷ ds) number
    go true q next = rw (ne_eqb e.number number (λ p. n (sym p)), ne_eqb d.number number (λ p. n (sym p ∙ eqb-true _ _ q)))
    go false q next = rw next

-- a found table put back: the list as it was, and a table with no refusal
kind_one : (k : ℕ) → is_table (kind_of k) ≡ true → k ≡ table_kind
unfolding kind_of when
kind_one k h = eqb-true k table_kind (go (eqb k table_kind) (ltb k 128) (ltb k 256) h)
  where
    go : (a b c : Bool) → is_table (cond a (Some Kind.Table) (cond b None (cond c (Some Kind.Note) None))) ≡ true → a ≡ true
    go true b c e = refl
    go false true c e = e
    go false false true e = e
    go false false false e = e

entry_back : (e : Entry) (number : ℕ) → ValidEntry e → e.number ≡ number → is_table (kind_of e.kind) ≡ true → table_entry number (body_table e.body) ≡ e
entry_back e number h p t = λ j. entry_by (sym (kind_one e.kind t) j) (sym p j) (table_back e.body h.bytes (h.table t) j)

abbrev Back : List Entry → ℕ → Found → Type 0
Back es number r = (put_entry es (table_entry number r.table) ≡ es) × ((table_refusal r.table).no ≡ 0)

pub put_found : (es : List Entry) (number : ℕ) → Each ValidEntry es → (find_in es number).refusal.no ≡ 0 → Back es number (find_in es number)
unfolding find_in put_entry
put_found [] number f h = absurd (omega arith)
put_found (e ∷ es) number f h = go (eqb e.number number) (is_table (kind_of e.kind)) refl refl (put_found es number f.1) h
  where
    go : (b c : Bool) → eqb e.number number ≡ b → is_table (kind_of e.kind) ≡ c
        → ((find_in es number).refusal.no ≡ 0 → Back es number (find_in es number))
        → (cond b (cond c (found (body_table e.body)) lost) (find_in es number)).refusal.no ≡ 0
        → Back (e ∷ es) number (cond b (cond c (found (body_table e.body)) lost) (find_in es number))
    go true true p q next h = (rw p (ap (λ (d : Entry). d ∷ es) (entry_back e number f.0 (eqb-true _ _ p) q)), (body_is_fine e.body (f.0.table q)).table)
    go true false p q next h = absurd (omega arith)
    go false c p q next h = (rw p (ap (λ (l : List Entry). e ∷ l) (next h).0), (next h).1)
