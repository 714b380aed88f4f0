-- What put writes: an accepted file, in which find gives the new table and, for every other number, what it gave before.
use Rattle.std.proofs.Common.{Ok}
use mathlib.Core.Path.{◌≡◌, refl, sym, ap, ◌∙◌}
use Prim.Native.Nat.{ℕ, ◌<◌}
use mathlib.Core.List.{List, ◌++◌}
use lib.ListN.{length, take, drop}
use lib.Seq.{take-append_seam}
use borrow.Author.Tests.{eq-eqb}
use Rattle.refusal.specs.Refusal.{Numbered, none}
use Rattle.table.specs.declared.Table.{Table}
use Rattle.table_row.specs.Limits.{most_rows}
use Rattle.basics.specs.When.{when}
use Rattle.file_kinds.specs.Kinds.{kind_of}
use Rattle.file_contents.specs.File.{Entry, entries_of}
use Rattle.file_check.specs.Check.{file_refusal, numbers, check_file}
use Rattle.file_check.specs.Find.{find_of}
use Rattle.file_new.specs.New.{table_entry, new_entries, new_file, put_refusal}
use Rattle.file_put.specs.Put.{Written, put_of, put_out, Puts}
use Rattle.file_laws.specs.Valid.{Bytes, ValidEntry, ValidEntries}
use Rattle.file_laws.specs.FindIn.{found, find_in, cleared}
use Rattle.file_laws.proofs.Accepted.{file_valid, encode_fine}
use Rattle.file_laws.proofs.Encoded.{encode_bytes}
use Rattle.file_laws.proofs.Tables.{bytes_back, bytes_fine, bytes_bytes}
use Rattle.file_laws.proofs.Finds.{find_entries}
use Rattle.file_laws.proofs.PutFinds.{find_put, find_other}
use Rattle.file_laws.proofs.PutValid.{put_valid}
use Rattle.file_laws.proofs.Passed.{Passed, put_passed}
use Rattle.file_laws.proofs.Kept.{put_entries, put_counted}

module _ (s : List ℕ) (number : ℕ) (t : Table) (room : ℕ) (bytes : Bytes s) (small : number < 65536) (rows : length t.rows ≡ most_rows) (is : (put_refusal s number t room).no ≡ 0) where
  passed : Passed s number t room
  passed = put_passed s number t room is

  entry_valid : ValidEntry (table_entry number t)
  unfolding kind_of when
  entry_valid = record {
    kind = refl;
    number = small;
    bytes = bytes_bytes t rows passed.table;
    table = λ _. bytes_fine t rows passed.table;
  }

  new_valid : ValidEntries (new_entries s number t)
  unfolding new_entries new_file
  new_valid = put_valid (entries_of s) (table_entry number t) (file_valid s bytes passed.file) entry_valid passed.few passed.short

  -- what put writes is a list of bytes, and passes the check
  pub put_bytes : Bytes (new_file s number t)
  unfolding new_file
  put_bytes = encode_bytes (new_entries s number t) new_valid

  pub put_accepted : file_refusal (new_file s number t) ≡ none
  unfolding new_file
  put_accepted = sym (encode_fine (new_entries s number t) new_valid)

  pub put_checked : check_file (new_file s number t) ≡ numbers (Ok (length (new_entries s number t)))
  unfolding check_file
  put_checked = rw put_accepted (ap (λ (n : ℕ). numbers (Ok n)) (put_counted s number t))

  fine : (file_refusal (new_file s number t)).no ≡ 0
  fine = ap (λ (r : Numbered). r.no) put_accepted

  find_new : (n : ℕ) → find_of (new_file s number t) n ≡ find_in (new_entries s number t) n
  find_new n = find_entries (new_file s number t) n fine ∙ ap (λ (es : List Entry). find_in es n) (put_entries s number t)

  -- find gives the table that was put, with zeros past its count
  pub put_finds : find_of (new_file s number t) number ≡ found (cleared t)
  unfolding new_entries
  put_finds = find_new number ∙ find_put number t (entries_of s) ∙ ap found (bytes_back t rows passed.table)

  -- and for every other number what it gave before, a refusal too
  pub put_keeps : (other : ℕ) → (other ≡ number → ⊥) → find_of (new_file s number t) other ≡ find_of s other
  unfolding new_entries
  put_keeps other n = find_new other ∙ find_other (entries_of s) (table_entry number t) other n ∙ sym (find_entries s other passed.file)

-- where the function put refuses nothing, the first bytes of the output are the new file, as many as it answers
pub put_writes : (s : List ℕ) (number : ℕ) (t : Table) (before after : List ℕ) (r : Written) → Puts s number t before after r → r.refusal.no ≡ 0
    → ((put_refusal s number t (length before)).no ≡ 0) × (take r.length after ≡ new_file s number t)
unfolding put_of put_out
put_writes s number t before after r p h =
    let none : (put_refusal s number t (length before)).no ≡ 0 = ap (λ (w : Written). w.refusal.no) (sym p.answer) ∙ h in
    let size : r.length ≡ length (new_file s number t) = ap (λ (w : Written). w.length) p.answer ∙ rw (eq-eqb _ 0 none) in
    let out : after ≡ new_file s number t ++ drop (length (new_file s number t)) before = p.output ∙ rw (eq-eqb _ 0 none) in
    (none, rw (size, out) (take-append_seam (new_file s number t) (drop (length (new_file s number t)) before)))
