-- How the code comes to the refusal of the entries in turn and of the whole contents, and when there is none.
use mathlib.Core.Bool.{true, false}
use mathlib.Core.Path.{◌≡◌, sym, ap, ◌∙◌}
use Prim.Native.Nat.{ℕ, ◌+◌, ◌-◌, ◌≤◌, ◌<◌}
use native.Mathlib.Omega.{arith}
use mathlib.Core.List.{List}
use lib.ListN.{length}
use borrow.Author.Tests.{eq-eqb, le-leb, le-ltb}
use Rattle.std.proofs.lemmas.Bool.Decides.{nat_tests}
use Rattle.refusal.specs.Refusal.{Numbered, refuse, none, in_entry}
use Rattle.basics.specs.Range.{inside}
use Rattle.basics.specs.When.{when, unless}
use Rattle.refusal.specs.Order.{in_turn}
use Rattle.file_entries.specs.Limits.{most_entries, most_bytes, the_form, head_bytes, after_entries}
use Rattle.file_kinds.specs.Kinds.{kind_of, is_refused}
use Rattle.file_entries.specs.Entries.{count_of, form_of, kind_at, number_at, start_at, length_at, place_of, seek_in}
use Rattle.file_contents.specs.Contents.{head_refusal, entry_refusal, left_over, entries_refusal, contents_refusal}
use Rattle.refusal.proofs.Order.{first_next, first_here, turn_fine, turn_here}

-- where every test passes
pub head_fine : (s : List ℕ) → inside head_bytes (length s) most_bytes ≡ true → form_of s ≡ the_form → inside 1 (count_of s) most_entries ≡ true → after_entries (count_of s) ≤ length s
    → 0 ≡ head_refusal s
unfolding head_refusal unless
head_fine s p q r h = rw (p, eq-eqb _ _ q, r, le-leb _ _ h)

pub entry_fine : (s : List ℕ) (i : ℕ) → is_refused (kind_of (kind_at s i)) ≡ false → start_at s i ≡ place_of s i → place_of s i + length_at s i ≤ length s → i ≤ seek_in s (number_at s i) i
    → 0 ≡ entry_refusal s i
unfolding entry_refusal when unless
entry_fine s i p q h g = rw (p, eq-eqb _ _ q, le-leb _ _ h, le-ltb _ _ g)

-- the entries in turn, and bytes left over
module _ (s : List ℕ) (n : ℕ) (is : n ≡ count_of s) where
  abbrev turn : ℕ → Numbered
  turn i = in_entry i (refuse (entry_refusal s i))

  pub turn_refused : (i : ℕ) → ((k : ℕ) → k < i → entry_refusal s k ≡ 0) → (entry_refusal s i ≡ 0 → ⊥) → i < n → in_entry i (refuse (entry_refusal s i)) ≡ entries_refusal s
  turn_refused i h b l =
      let e = turn_here turn (count_of s) i h b (omega arith) in
      e ∙ first_here (in_turn turn (count_of s)) (left_over s) (λ z. b (ap (λ (r : Numbered). r.no) e ∙ z))

  turn_passed : ((k : ℕ) → k < n → entry_refusal s k ≡ 0) → left_over s ≡ entries_refusal s
  turn_passed h =
      first_next (in_turn turn (count_of s)) (left_over s) (sym (ap (λ (r : Numbered). r.no) (turn_fine turn (count_of s) (λ k l. h k (omega arith)))))

  pub left_over_lem : ((k : ℕ) → k < n → entry_refusal s k ≡ 0) → (place_of s n ≡ length s → ⊥) → in_entry (n - 1) (refuse 13) ≡ entries_refusal s
  unfolding left_over unless
  left_over_lem h b = let p = turn_passed h in grind (arith, nat_tests)

  pub all_fine : ((k : ℕ) → k < n → entry_refusal s k ≡ 0) → place_of s n ≡ length s → none ≡ entries_refusal s
  unfolding left_over unless
  all_fine h e = let p = turn_passed h in grind (arith, nat_tests)

-- the head, then the entries
module _ (s : List ℕ) where
  pub head_refused : (head_refusal s ≡ 0 → ⊥) → refuse (head_refusal s) ≡ contents_refusal s
  unfolding contents_refusal
  head_refused b = first_here (refuse (head_refusal s)) (entries_refusal s) b

  pub head_passed : head_refusal s ≡ 0 → entries_refusal s ≡ contents_refusal s
  unfolding contents_refusal
  head_passed e = first_next (refuse (head_refusal s)) (entries_refusal s) e
