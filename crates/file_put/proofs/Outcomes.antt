-- What is answered and left in the output, from the refusal at hand.
use mathlib.Core.Path.{◌≡◌, refl, sym, ap, ap₂, ◌∙◌}
use Rattle.std.proofs.Common.{Ok, Err}
use mathlib.Core.Bool.{Bool, true, false, cond}
use Prim.Native.Nat.{ℕ, ◌+◌, ◌≤◌}
use native.Mathlib.Omega.{arith}
use mathlib.Core.List.{List, ◌++◌}
use lib.ListN.{length, take, drop}
use lib.Dec.{eqb}
use borrow.Author.Tests.{eq-eqb, ne_eqb, eqb-true}
use Rattle.refusal.specs.declared.Refusal.{Refusal}
use Rattle.refusal.specs.Refusal.{Numbered, none}
use Rattle.refusal.specs.Told.{told}
use Rattle.refusal.proofs.Told.{number_some}
use Rattle.table.specs.declared.Table.{Table}
use Rattle.file_bytes.specs.Over.{over}
use Rattle.file_bytes.proofs.Overs.{over_start, take_over}
use Rattle.table_row.specs.Limits.{most_rows}
use Rattle.file_entries.specs.Limits.{most_entries}
use Rattle.file_kinds.specs.Kinds.{table_kind}
use Rattle.file_entries.specs.Entries.{count_of, sought, seek_of}
use Rattle.file_contents.specs.File.{entry_by, encode}
use Rattle.file_write.specs.declared.Source.{Source}
use Rattle.file_write.specs.declared.Parts.{Parts}
use Rattle.file_write.specs.Sources.{entries_by, held, entries_in}
use Rattle.file_bodies.specs.Layout.{body_length, most_body}
use Rattle.file_bodies.specs.Body.{table_bytes}
use Rattle.file_bodies.proofs.Writing.{length_table}
use Rattle.file_new.specs.New.{table_entry, new_entries, new_file, put_refusal}
use Rattle.file_put.specs.Put.{Written, written, put_of, put_out, Puts}
use Rattle.file_new.specs.Steps.{Sources, count_with, new_count, early_refusal, length_refusal}
use Rattle.file_put.specs.Writing.{written_of, written_over, Writes}
use Rattle.file_new.proofs.Entered.{entered, entered_count, count_is}
use Rattle.file_new.proofs.Steps.{put_early, put_late, length_is_fine}

abbrev no : Numbered → ℕ
no r = r.no

abbrev answer : Numbered → ℕ → Written
answer r n = record { refusal = r; length = n }

-- the file is written, or it is not
module _ (file before : List ℕ) (len : ℕ) (l : len ≡ length file) where
  pub writes_none : (r : Refusal) → told r ≡ length_refusal len (length before) → Writes file before before (written (Err r))
  unfolding written_of written_over
  writes_none r e =
      let is = e ∙ ap (λ (k : ℕ). length_refusal k (length before)) l in
      let n = ne_eqb (length_refusal (length file) (length before)).no 0 (rw (← is) (number_some r.rule)) in
      record { answer = rw n (ap (λ (q : Numbered). answer q 0) is); output = rw n }

  pub writes_file : (after : List ℕ) → none ≡ length_refusal len (length before) → after ≡ over before 0 file → Writes file before after (written (Ok len))
  unfolding written_of written_over
  writes_file after e o =
      let is = e ∙ ap (λ (k : ℕ). length_refusal k (length before)) l in
      let n = eq-eqb (length_refusal (length file) (length before)).no 0 (sym (ap no is)) in
      record { answer = rw n (ap₂ answer is l); output = rw n o }

-- the new file, by what the code works out
pub file_of_parts : (s : List ℕ) (number : ℕ) (t : Table) (p : Parts) (b : List ℕ) (n : ℕ) (sources : List Source)
    → p.old.now ≡ s → held p.new ≡ entry_by table_kind number b → p.sources.now ≡ take n sources → b ≡ table_bytes t → n ≡ count_with (count_of s) (seek_of s number)
    → Sources (seek_of s number) sources → length (new_entries s number t) ≤ most_entries
    → encode (entries_in p) ≡ new_file s number t
unfolding new_file new_entries
file_of_parts s number t p b n sources old new list body many h few =
    let e = entered_count s (table_entry number t) in
    (λ k. encode (entries_by (old k) (new k) (list k)))
    ∙ (λ k. encode (entries_by s (entry_by table_kind number (body k)) (take (many k) sources)))
    ∙ ap encode (entered s (table_entry number t) sources h (omega arith))

-- and with the count of what the search found
pub file_is : (s : List ℕ) (number : ℕ) (t : Table) (p : Parts) (b : List ℕ) (n : ℕ) (sources : List Source)
    → p.old.now ≡ s → held p.new ≡ entry_by table_kind number b → p.sources.now ≡ take n sources → b ≡ table_bytes t → n ≡ new_count (count_of s) (sought (seek_of s number) (count_of s))
    → Sources (seek_of s number) sources → length (new_entries s number t) ≤ most_entries
    → encode (entries_in p) ≡ new_file s number t
file_is s number t p b n sources old new list body many h few =
    file_of_parts s number t p b n sources old new list body (many ∙ count_is (seek_of s number) (count_of s)) h few

-- the body in the buffer
pub buffer_is : (o : List ℕ) (t : Table) → length t.rows ≡ most_rows → t.count ≤ most_rows → most_body ≤ length o → take (body_length t.count) (over o 0 (table_bytes t)) ≡ table_bytes t
buffer_is o t w few h =
    let l = length_table t w in
    let e : body_length t.count ≡ 0 + length (table_bytes t) = omega arith in
    ap (λ (k : ℕ). take k (over o 0 (table_bytes t))) e ∙ take_over o 0 (table_bytes t) (omega arith)

module _ (s : List ℕ) (number : ℕ) (t : Table) (before : List ℕ) where
  pub puts_none : (r : Refusal) → told r ≡ early_refusal s number t → Puts s number t before before (written (Err r))
  unfolding put_of put_out
  puts_none r is =
      let e = is ∙ put_early s number t (length before) (rw (← is) (number_some r.rule)) in
      let n = ne_eqb (put_refusal s number t (length before)).no 0 (rw (← e) (number_some r.rule)) in
      record { answer = rw n (ap (λ (q : Numbered). answer q 0) e); output = rw n }

  pub puts_file : (after : List ℕ) (r : Written) → none ≡ early_refusal s number t → Writes (new_file s number t) before after r → Puts s number t before after r
  unfolding put_of put_out written_of written_over
  puts_file after r e w =
      let file = new_file s number t in
      let p = put_late s number t (length before) (rw (← e)) in
      record {
        answer = w.answer ∙ ap (λ (q : Numbered). answer q (cond (eqb q.no 0) (length file) 0)) p;
        output = w.output ∙ go (eqb (length_refusal (length file) (length before)).no 0) refl ∙ ap (λ (q : Numbered). cond (eqb q.no 0) (file ++ drop (length file) before) before) p;
      }
    where
      go : (b : Bool) → eqb (length_refusal (length (new_file s number t)) (length before)).no 0 ≡ b
          → cond b (over before 0 (new_file s number t)) before ≡ cond b (new_file s number t ++ drop (length (new_file s number t)) before) before
      go true q = over_start before (new_file s number t) (length_is_fine (length (new_file s number t)) (length before) (eqb-true _ _ q)).1
      go false q = refl
