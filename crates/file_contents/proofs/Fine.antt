-- What it tells of a file that its contents have no refusal.
use mathlib.Core.Path.{◌≡◌}
use mathlib.Core.Bool.{false}
use Prim.Native.Nat.{ℕ, ◌+◌, ◌≤◌, ◌<◌}
use mathlib.Core.List.{List}
use lib.ListN.{length}
use Rattle.std.proofs.Common.{arith}
use Rattle.std.proofs.lemmas.Bool.Decides.{nat_tests}
use Rattle.basics.specs.When.{when, unless}
use Rattle.refusal.specs.Refusal.{refuse, in_entry}
use Rattle.basics.specs.Range.{inside}
use Rattle.refusal.specs.Order.{in_turn}
use Rattle.file_entries.specs.Limits.{most_entries, most_bytes, the_form, head_bytes, after_entries}
use Rattle.file_kinds.specs.Kinds.{kind_of, is_refused}
use Rattle.file_entries.specs.Entries.{count_of, form_of, kind_at, number_at, start_at, length_at, place_of, seek_in}
use Rattle.file_contents.specs.Contents.{head_refusal, entry_refusal, left_over, entries_refusal, contents_refusal}
use Rattle.refusal.proofs.Order.{first_fine, turn_all}

pub record HeadFine (s : List ℕ) : Type 0 where
  pub four : head_bytes ≤ length s
  pub most : length s ≤ most_bytes
  pub form : form_of s ≡ the_form
  pub some : 1 ≤ count_of s
  pub few : count_of s ≤ most_entries
  pub room : after_entries (count_of s) ≤ length s

pub head_is_fine : (s : List ℕ) → head_refusal s ≡ 0 → HeadFine s
unfolding head_refusal unless inside
head_is_fine s h = record {
  four = grind (arith, nat_tests);
  most = grind (arith, nat_tests);
  form = grind (arith, nat_tests);
  some = grind (arith, nat_tests);
  few = grind (arith, nat_tests);
  room = grind (arith, nat_tests);
}

pub record EntryFine (s : List ℕ) (i : ℕ) : Type 0 where
  pub kind : is_refused (kind_of (kind_at s i)) ≡ false
  pub start : start_at s i ≡ place_of s i
  pub end : place_of s i + length_at s i ≤ length s
  pub fresh : i ≤ seek_in s (number_at s i) i

pub entry_is_fine : (s : List ℕ) (i : ℕ) → entry_refusal s i ≡ 0 → EntryFine s i
unfolding entry_refusal when unless
entry_is_fine s i h = record {
  kind = grind (arith, nat_tests);
  start = grind (arith, nat_tests);
  end = grind (arith, nat_tests);
  fresh = grind (arith, nat_tests);
}

-- every part of the contents is in order, and the file ends with the last body
pub record ContentsFine (s : List ℕ) : Type 0 where
  pub head : HeadFine s
  pub entry : (i : ℕ) → i < count_of s → EntryFine s i
  pub whole : place_of s (count_of s) ≡ length s

pub contents_are_fine : (s : List ℕ) → (contents_refusal s).no ≡ 0 → ContentsFine s
unfolding contents_refusal left_over unless
contents_are_fine s h =
    let a = first_fine (refuse (head_refusal s)) (entries_refusal s) h in
    let b = first_fine (in_turn (λ i. in_entry i (refuse (entry_refusal s i))) (count_of s)) (left_over s) a.1 in
    record {
      head = head_is_fine s a.0;
      entry = λ i l. entry_is_fine s i (turn_all (λ i. in_entry i (refuse (entry_refusal s i))) (count_of s) b.0 i l);
      whole = let z = b.1 in grind (arith, nat_tests);
    }
