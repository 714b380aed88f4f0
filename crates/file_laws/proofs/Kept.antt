-- The entries of the new file: each of another number is where it was, and there is one more where the number is new.
use mathlib.Core.Path.{◌≡◌, sym, ap, ◌∙◌}
use mathlib.Core.Bool.{cond}
use Prim.Native.Nat.{ℕ, ◌+◌, ◌<◌}
use native.Mathlib.Omega.{arith}
use mathlib.Core.List.{List}
use lib.ListN.{length, get_or}
use lib.Dec.{ltb}
use Rattle.table.specs.declared.Table.{Table}
use Rattle.file_entries.specs.Entries.{count_of, number_at, seek_of}
use Rattle.file_contents.specs.File.{Entry, entry_at, entries_of}
use Rattle.file_new.specs.New.{table_entry, new_entries, new_file}
use Rattle.file_new.proofs.Entered.{entered_count, count_with_is}
use Rattle.file_laws.proofs.Entries.{length_entries, entry_of}
use Rattle.file_laws.proofs.Laid.{entries_back}
use Rattle.file_laws.proofs.Puts.{put_other, put_length}

module _ (s : List ℕ) (number : ℕ) (t : Table) where
  pub put_entries : entries_of (new_file s number t) ≡ new_entries s number t
  unfolding new_file
  put_entries = entries_back (new_entries s number t)

  pub put_counted : count_of (new_file s number t) ≡ length (new_entries s number t)
  put_counted = sym (length_entries (new_file s number t)) ∙ ap length put_entries

  pub put_keeps_entry : (i : ℕ) → i < count_of s → (number_at s i ≡ number → ⊥) → entry_at (new_file s number t) i ≡ entry_at s i
  unfolding new_entries entry_at
  put_keeps_entry i l n =
      let e = table_entry number t in
      let old = entry_of s i e l in
      sym (entry_of (new_file s number t) i e (omega (arith, put_counted, put_length (entries_of s) e, length_entries s)))
      ∙ ap (λ (es : List Entry). get_or es i e) put_entries
      ∙ put_other (entries_of s) e e i (omega (arith, length_entries s)) (λ q. n (sym (ap (λ (d : Entry). d.number) old) ∙ q))
      ∙ old

  -- as many entries as before, or one more
  pub put_count : length (new_entries s number t) ≡ cond (ltb (seek_of s number) (count_of s)) (count_of s) (count_of s + 1)
  unfolding new_entries
  put_count = entered_count s (table_entry number t) ∙ count_with_is (seek_of s number) (count_of s)
