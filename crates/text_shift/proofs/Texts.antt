-- From entry to entry: the text so far and the lists so far.
use mathlib.Core.Path.{◌≡◌, refl, ap, ap₂, subst, ◌∙◌}
use mathlib.Core.Bool.{true, false}
use mathlib.Core.List.{List, [], ◌++◌}
use Prim.Native.Nat.{ℕ, suc, ◌+◌, ◌*◌, ◌≤◌}
use native.Mathlib.Nat.{zero-add}
use native.Mathlib.Numerals.{add-one}
use native.Mathlib.Omega.{arith}
use lib.ListN.{length, length-append}
use borrow.Author.Tests.{eq-eqb, ne_eqb}
use Rattle.table.specs.declared.Table.{Table}
use Rattle.table_row.specs.Limits.{most_slots}
use Rattle.std.specs.Prelude.{Result}
use Rattle.refusal.specs.declared.Refusal.{Refusal}
use Rattle.refusal.specs.Refusal.{Numbered}
use Rattle.refusal.specs.Told.{told}
use Rattle.refusal.proofs.Told.{number_some}
use Rattle.basics.specs.When.{when}
use Rattle.file_kinds.specs.Kinds.{kind_of, is_table}
use Rattle.file_entries.specs.Entries.{count_of, kind_at, number_at}
use Rattle.file_bodies.specs.Body.{table_at}
use Rattle.file_check.specs.Check.{file_refusal}
use Rattle.file_check.proofs.Fine.{file_is_fine}
use Rattle.judge.specs.declared.Verdict.{Verdict}
use Rattle.judge.specs.Judge.{judge_of, Judged}
use Rattle.file_bytes.specs.Over.{over}
use Rattle.file_bytes.proofs.Overs.{length_over}
use Rattle.text_decimal.specs.declared.Output.{Output}
use Rattle.text_decimal.proofs.Puts.{written_none, written_then, put_place}
use Rattle.text_lines.specs.Line.{longest, table_line, refused_line}
use Rattle.text_shift.specs.Shift.{text_room}
use Rattle.text_shift.specs.Text.{verdict_at, entry_line, lines_to, text_of}
use Rattle.text_shift.specs.Lists.{entry_lists, lists_to, lists_after}
use Rattle.text_shift.specs.Shift.{lists, Shifted}
use Rattle.text_lines.specs.Told.{verdict_line, Told}
use Rattle.text_shift.specs.Steps.{Entered, Through}
use Rattle.text_lines.proofs.Lines.{verdict_line_lem}

pub told_none : (most : ℕ) (o : Output) → Told most o [] o
told_none most o = record { written = written_none o; short = omega arith }

pub told_then : {a b : ℕ} (c : ℕ) {o : Output} {xs : List ℕ} {o₁ : Output} {ys : List ℕ} {o₂ : Output} → a + b ≤ c → Told a o xs o₁ → Told b o₁ ys o₂ → Told c o (xs ++ ys) o₂
told_then c {xs = xs} {ys = ys} h p q = record {
  written = written_then p.written q.written;
  short = omega (arith, p.short, q.short, length-append xs ys);
}

-- an entry that is a note, and one that is a table
module _ {s : List ℕ} {i : ℕ} {map pins : List ℕ} {o : Output} where
  pub entered_note : is_table (kind_of (kind_at s i)) ≡ false → Entered s i map pins o map pins o
  unfolding entry_line entry_lists when
  entered_note e = record { told = rw e (told_none longest o); lists_are = rw e }

  pub entered_table : {map' pins' : List ℕ} {o' : Output} {number : ℕ} {t : Table} {v : Result Verdict Refusal} → is_table (kind_of (kind_at s i)) ≡ true
      → number ≡ number_at s i → t ≡ table_at s i → length map ≡ most_slots → length pins ≡ most_slots
      → Judged t map pins map' pins' v → Told longest o (verdict_line number v) o' → Entered s i map pins o map' pins' o'
  unfolding entry_line entry_lists verdict_at when
  entered_table {number = number} {t = t} e f g p q j w =
      let line = verdict_line_lem number j p q in
      let here : table_line number (judge_of t most_slots most_slots) ≡ table_line (number_at s i) (judge_of (table_at s i) most_slots most_slots) = ap₂ (λ (k : ℕ) (t : Table). table_line k (judge_of t most_slots most_slots)) f g in
      record {
        told = rw (e, ← here, ← line) w;
        lists_are = rw (e, ← g) (ap₂ lists j.map_is j.pins_is);
      }

-- the first entries, one more at a time
module _ {s : List ℕ} {map pins : List ℕ} {o : Output} where
  pub through_none : Through s 0 map pins o map pins o
  unfolding lines_to lists_to
  through_none = record { told = told_none 0 o; lists_are = refl }

  pub through_more : {i : ℕ} {map₁ pins₁ : List ℕ} {o₁ : Output} {map₂ pins₂ : List ℕ} {o₂ : Output} → Through s i map pins o map₁ pins₁ o₁
      → Entered s i map₁ pins₁ o₁ map₂ pins₂ o₂ → Through s (i + 1) map pins o map₂ pins₂ o₂
  unfolding lines_to lists_to
  through_more {i} p q = rw add-one record {
    told = told_then (longest * suc i) (omega arith) p.told q.told;
    lists_are = q.lists_are ∙ ap (entry_lists s i) p.lists_are;
  }

-- a text at the start of an output that has room for it
started : {most : ℕ} {o : Output} {text : List ℕ} {o' : Output} → Told most o text o' → o.at ≡ 0 → most ≤ length o.bytes.now → (o'.at ≡ length text) × (o'.bytes.now ≡ over o.bytes.now 0 text)
started {o = o} {text} w e h =
    let p = w.written.put (omega (arith, w.short)) in
    (put_place p (omega (arith, w.short)) ∙ ap (λ (k : ℕ). k + length text) e ∙ zero-add _, p.output ∙ ap (λ (k : ℕ). over o.bytes.now k text) e)

-- the whole file
module _ {s : List ℕ} {map pins : List ℕ} {o o' : Output} (start : o.at ≡ 0) (room : length o.bytes.now ≡ text_room) where
  refused_file : ((file_refusal s).no ≡ 0 → ⊥) → Told longest o (refused_line (file_refusal s)) o' → Shifted s map pins o.bytes.now map pins o'.bytes.now o'.at
  unfolding text_of lists_after
  refused_file n w =
      let e = ne_eqb _ _ n in
      let p = started w start (omega arith) in
      record { answer = rw e p.0; output = rw e p.1; room = rw e (omega (arith, w.short)); lists_are = rw e }

  pub shifted_refused : (r : Refusal) → told r ≡ file_refusal s → Told longest o (refused_line (told r)) o' → Shifted s map pins o.bytes.now map pins o'.bytes.now o'.at
  shifted_refused r f w =
      refused_file (λ z. number_some r.rule (ap (λ (x : Numbered). x.no) f ∙ z)) (subst (λ (x : Numbered). Told longest o (refused_line x) o') f w)

  pub shifted_lines : {n : ℕ} {map' pins' : List ℕ} → (file_refusal s).no ≡ 0 → n ≡ count_of s → Through s n map pins o map' pins' o' → Shifted s map pins o.bytes.now map' pins' o'.bytes.now o'.at
  unfolding text_of lists_after
  shifted_lines {n} f g w =
      let e = eq-eqb _ _ f in
      let few = (file_is_fine s f).contents.head.few in
      let p = started w.told start (omega arith) in
      record {
        answer = rw (e, ← g) p.0;
        output = rw (e, ← g) p.1;
        room = rw (e, ← g) (omega (arith, w.told.short));
        lists_are = rw (e, ← g) w.lists_are;
      }

-- the text is within the output
pub shifted_fits : {s map pins out map' pins' out' : List ℕ} {r : ℕ} → Shifted s map pins out map' pins' out' r → length out ≡ text_room → r ≤ length out'
shifted_fits {s} {out = out} w e = omega (arith, w.answer, w.room, ap length w.output ∙ length_over out 0 (text_of s))
