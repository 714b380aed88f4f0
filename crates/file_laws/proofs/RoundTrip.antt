-- "So, with an output at least as long as the file, putting a found table back under its number writes that file again."
use mathlib.Core.Path.{◌≡◌, refl, sym, ap, ◌∙◌}
use mathlib.Core.Bool.{true, false}
use Prim.Native.Nat.{ℕ, ◌≤◌}
use mathlib.Core.List.{List, ◌++◌}
use lib.ListN.{length, drop}
use borrow.Author.Tests.{le-leb}
use Rattle.refusal.specs.Refusal.{none}
use Rattle.file_entries.specs.Limits.{most_bytes}
use Rattle.std.proofs.Common.{Option, Some, None}
use Rattle.file_kinds.specs.declared.Kind.{Kind}
use Rattle.file_kinds.specs.declared.Kind.TheVariants.{Table, Note}
use Rattle.basics.specs.When.{when, unless}
use Rattle.refusal.specs.Order.{first}
use Rattle.file_kinds.specs.Kinds.{is_table, is_note}
use Rattle.file_entries.specs.Entries.{kind_under}
use Rattle.file_entries.proofs.Under.{under_entry}
use Rattle.file_contents.specs.File.{encode, entries_of}
use Rattle.refusal.proofs.Order.{first_next}
use Rattle.table.specs.Check.{table_refusal}
use Rattle.file_check.specs.Check.{file_refusal}
use Rattle.file_check.specs.Find.{Found, find_of}
use Rattle.file_check.proofs.Fine.{FoundFine, found_is_fine}
use Rattle.file_new.specs.New.{table_entry, put_entry, new_entries, new_file, note_has, put_refusal}
use Rattle.file_put.specs.Put.{Written, put_of, put_out, Puts}
use Rattle.file_laws.specs.Valid.{Bytes, ValidEntries}
use Rattle.file_laws.proofs.Accepted.{file_back, file_valid}
use Rattle.file_laws.proofs.Finds.{find_entries}
use Rattle.file_laws.proofs.PutFinds.{put_found}

-- a table's number is no note's
not_note : (k : Option Kind) → is_table k ≡ true → is_note k ≡ false
not_note (Some Table) e = refl
not_note (Some Note) e = sym e
not_note None e = refl

no_note : (s : List ℕ) (number : ℕ) → FoundFine s number → note_has s number ≡ false
no_note s number f = not_note (kind_under s number) (ap is_table (sym (under_entry s number f.below)) ∙ f.table)

module _ (s : List ℕ) (number : ℕ) (bytes : Bytes s) (is : (find_of s number).refusal.no ≡ 0) where
  found : FoundFine s number
  unfolding find_of
  found = found_is_fine s number is

  valid : ValidEntries (entries_of s)
  valid = file_valid s bytes found.file

  -- the entry that is put is the entry that is there
  back : (put_entry (entries_of s) (table_entry number (find_of s number).table) ≡ entries_of s) × ((table_refusal (find_of s number).table).no ≡ 0)
  back =
      let same = find_entries s number found.file in
      rw same (put_found (entries_of s) number valid.each (rw same at is))

  same_file : new_file s number (find_of s number).table ≡ s
  unfolding new_file new_entries
  same_file = ap encode back.0 ∙ file_back s bytes found.file

  not_refused : (room : ℕ) → length s ≤ room → none ≡ put_refusal s number (find_of s number).table room
  unfolding put_refusal new_entries when unless
  not_refused room h =
      let t = (find_of s number).table in
      let short : length s ≤ most_bytes = rw (file_back s bytes found.file) at valid.short in
      rw (no_note s number found, same_file, back.0, le-leb _ _ valid.few, le-leb _ _ short, le-leb _ _ h)
      (first_next (table_refusal t) none back.1 ∙ first_next (file_refusal s) (first (table_refusal t) none) found.file)

  -- the round trip, in the definitions
  pub put_back : (out : List ℕ) → length s ≤ length out
      → (put_of s number (find_of s number).table (length out) ≡ record { refusal = none; length = length s })
      × (put_out s number (find_of s number).table out ≡ s ++ drop (length s) out)
  unfolding put_of put_out
  put_back out h =
      let r = not_refused (length out) h in
      (rw (← r, same_file), rw (← r, same_file))

-- and of the functions, by their contracts: what find answered, put back
pub round_trip : (s : List ℕ) (number : ℕ) (f : Found) (before after : List ℕ) (r : Written) → Bytes s → f ≡ find_of s number → f.refusal.no ≡ 0
    → length s ≤ length before → Puts s number f.table before after r → (r ≡ record { refusal = none; length = length s }) × (after ≡ s ++ drop (length s) before)
round_trip s number f before after r bytes e is h p =
    let b = put_back s number bytes (ap (λ (g : Found). g.refusal.no) (sym e) ∙ is) before h in (
      p.answer ∙ ap (λ (g : Found). put_of s number g.table (length before)) e ∙ b.0,
      p.output ∙ ap (λ (g : Found). put_out s number g.table before) e ∙ b.1,
    )
