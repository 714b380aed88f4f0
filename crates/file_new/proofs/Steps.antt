-- How put comes to each answer.
use mathlib.Core.Path.{◌≡◌, refl, sym, ap, ◌∙◌}
use mathlib.Core.Bool.{Bool, true, false, cond}
use Prim.Native.Nat.{ℕ, ◌≤◌, ◌<◌}
use mathlib.Core.List.{List}
use Rattle.std.proofs.Common.{unwrap_or}
use lib.ListN.{length}
use lib.Dec.{leb, eqb}
use borrow.Author.Tests.{ne_eqb, le-leb, lt-leb, eqb-false, leb-true}
use Rattle.refusal.specs.declared.Refusal.{Refusal}
use Rattle.refusal.specs.Told.{told}
use Rattle.refusal.proofs.Told.{number_some}
use Rattle.file_entries.specs.Entries.{count_of, sought, seek_of}
use Rattle.file_new.proofs.Entered.{entered_count, sought_count, place_is}
use Rattle.refusal.specs.Refusal.{Numbered, refuse, none}
use Rattle.table.specs.declared.Table.{Table}
use Rattle.basics.specs.When.{when, unless}
use Rattle.refusal.specs.Order.{first}
use Rattle.file_entries.specs.Limits.{most_entries, most_bytes}
use Rattle.refusal.proofs.Order.{first_next, first_here, first_fine}
use Rattle.basics.proofs.When.{when_passed, unless_passed}
use Rattle.table.specs.Check.{table_refusal}
use Rattle.file_check.specs.Check.{file_refusal}
use Rattle.file_new.specs.New.{table_entry, new_entries, new_file, note_has, put_refusal}
use Rattle.file_new.specs.Steps.{count_with, new_count, early_refusal, length_refusal}

abbrev no : Numbered → ℕ
no r = r.no

-- the file, the table, 17 and 11
module _ (s : List ℕ) (number : ℕ) (t : Table) where
  abbrev place : Numbered
  place =
      when (note_has s number) (refuse 17)
      (unless (leb (length (new_entries s number t)) most_entries) (refuse 11) none)

  pub early_file : ((file_refusal s).no ≡ 0 → ⊥) → file_refusal s ≡ early_refusal s number t
  unfolding early_refusal
  early_file b = first_here (file_refusal s) (first (table_refusal t) place) b

  module _ (f : (file_refusal s).no ≡ 0) where
    pub early_table : ((table_refusal t).no ≡ 0 → ⊥) → table_refusal t ≡ early_refusal s number t
    unfolding early_refusal
    early_table b = first_here (table_refusal t) place b ∙ first_next (file_refusal s) (first (table_refusal t) place) f

    module _ (g : (table_refusal t).no ≡ 0) where
      passed : place ≡ early_refusal s number t
      unfolding early_refusal
      passed = first_next (table_refusal t) place g ∙ first_next (file_refusal s) (first (table_refusal t) place) f

      pub early_note : note_has s number ≡ true → refuse 17 ≡ early_refusal s number t
      unfolding when
      early_note h = rw h refl ∙ passed

      pub early_full : note_has s number ≡ false → most_entries < length (new_entries s number t) → refuse 11 ≡ early_refusal s number t
      unfolding when unless
      early_full h l = rw (h, lt-leb _ _ l) refl ∙ passed

      pub early_fine : note_has s number ≡ false → length (new_entries s number t) ≤ most_entries → none ≡ early_refusal s number t
      unfolding when unless
      early_fine h l = rw (h, le-leb _ _ l) refl ∙ passed

  -- how many entries the code counts, by the place that the search came to
  abbrev many : ℕ
  many = count_with (count_of s) (unwrap_or (sought (seek_of s number) (count_of s)) (count_of s))

  many_is : many ≡ length (new_entries s number t)
  unfolding new_entries
  many_is = rw (place_is s number) (sym (entered_count s (table_entry number t)))

  -- the same, by what the code has at hand
  pub told_file : (r : Refusal) → told r ≡ file_refusal s → told r ≡ early_refusal s number t
  told_file r e = e ∙ early_file (rw (← e) (number_some r.rule))

  module _ (f : none ≡ file_refusal s) where
    pub told_table : (r : Refusal) → told r ≡ table_refusal t → told r ≡ early_refusal s number t
    told_table r e = e ∙ early_table (rw (← f)) (rw (← e) (number_some r.rule))

    module _ (g : none ≡ table_refusal t) where
      pub told_note : note_has s number ≡ true → refuse 17 ≡ early_refusal s number t
      told_note h = early_note (rw (← f)) (rw (← g)) h

      module _ (h : note_has s number ≡ false) where
        pub told_full : most_entries < many → refuse 11 ≡ early_refusal s number t
        told_full l = early_full (rw (← f)) (rw (← g)) h (rw many_is at l)

        pub told_fine : many ≤ most_entries → none ≡ early_refusal s number t
        told_fine l = early_fine (rw (← f)) (rw (← g)) h (rw many_is at l)

        -- and by `new_count` of what the search found
        pub sought_full : most_entries < new_count (count_of s) (sought (seek_of s number) (count_of s)) → refuse 11 ≡ early_refusal s number t
        unfolding new_entries
        sought_full l = early_full (rw (← f)) (rw (← g)) h (rw (← sought_count s (table_entry number t)) at l)

        pub sought_fine : new_count (count_of s) (sought (seek_of s number) (count_of s)) ≤ most_entries → none ≡ early_refusal s number t
        unfolding new_entries
        sought_fine l = early_fine (rw (← f)) (rw (← g)) h (rw (← sought_count s (table_entry number t)) at l)

  -- what it tells that none of these applies
  pub record Early : Type 0 where
    pub file : (file_refusal s).no ≡ 0
    pub table : (table_refusal t).no ≡ 0
    pub few : length (new_entries s number t) ≤ most_entries

  pub early_is_fine : (early_refusal s number t).no ≡ 0 → Early
  unfolding early_refusal
  early_is_fine h =
      let a = first_fine (file_refusal s) (first (table_refusal t) place) h in
      let b = first_fine (table_refusal t) place a.1 in
      let d = when_passed no (note_has s number) (refuse 17) _ 0 b.1 (eqb-false 17 0 refl) in
      let e = unless_passed no (leb (length (new_entries s number t)) most_entries) (refuse 11) none 0 d.1 (eqb-false 11 0 refl) in
      record { file = a.0; table = b.0; few = leb-true _ _ e.0 }

-- 9 and 19
module _ (len room : ℕ) where
  pub length_long : most_bytes < len → refuse 9 ≡ length_refusal len room
  unfolding length_refusal unless
  length_long h = rw (lt-leb _ _ h)

  pub length_short : len ≤ most_bytes → room < len → refuse 19 ≡ length_refusal len room
  unfolding length_refusal unless
  length_short h g = rw (le-leb _ _ h, lt-leb _ _ g)

  pub length_fits : len ≤ most_bytes → len ≤ room → none ≡ length_refusal len room
  unfolding length_refusal unless
  length_fits h g = rw (le-leb _ _ h, le-leb _ _ g)

  pub length_is_fine : (length_refusal len room).no ≡ 0 → (len ≤ most_bytes) × (len ≤ room)
  unfolding length_refusal
  length_is_fine h =
      let a = unless_passed no (leb len most_bytes) (refuse 9) _ 0 h (eqb-false 9 0 refl) in
      let b = unless_passed no (leb len room) (refuse 19) none 0 a.1 (eqb-false 19 0 refl) in
      (leb-true _ _ a.0, leb-true _ _ b.0)

  -- what an answer tells of the length
  module _ (h : none ≡ length_refusal len room) where
    pub length_most : len ≤ most_bytes
    length_most = (length_is_fine (rw (← h))).0

    pub length_room : len ≤ room
    length_room = (length_is_fine (rw (← h))).1

-- a refusal first of several
first_first : (a b c : Numbered) → first (first a b) c ≡ first a (first b c)
unfolding first
first_first a b c = go (eqb a.no 0) refl
  where
    go : (t : Bool) → eqb a.no 0 ≡ t → cond (eqb (cond t b a).no 0) c (cond t b a) ≡ cond t (cond (eqb b.no 0) c b) a
    go true e = refl
    go false e = rw e

first_when : (t : Bool) (k : ℕ) (b c : Numbered) → (k ≡ 0 → ⊥) → first (when t (refuse k) b) c ≡ when t (refuse k) (first b c)
unfolding first when
first_when true k b c n = rw (ne_eqb k 0 n)
first_when false k b c n = refl

first_unless : (t : Bool) (k : ℕ) (b c : Numbered) → (k ≡ 0 → ⊥) → first (unless t (refuse k) b) c ≡ unless t (refuse k) (first b c)
unfolding first unless
first_unless true k b c n = refl
first_unless false k b c n = rw (ne_eqb k 0 n)

-- put's refusal: the early ones, then those of the length
module _ (s : List ℕ) (number : ℕ) (t : Table) (room : ℕ) where
  abbrev late : Numbered
  late = length_refusal (length (new_file s number t)) room

  split : first (early_refusal s number t) late ≡ put_refusal s number t room
  unfolding early_refusal put_refusal length_refusal first
  split =
      first_first (file_refusal s) (first (table_refusal t) (place s number t)) late
      ∙ ap (first (file_refusal s)) (first_first (table_refusal t) (place s number t) late
      ∙ ap (first (table_refusal t)) (first_when (note_has s number) 17 (unless (leb (length (new_entries s number t)) most_entries) (refuse 11) none) late (eqb-false 17 0 refl)
      ∙ ap (when (note_has s number) (refuse 17)) (first_unless (leb (length (new_entries s number t)) most_entries) 11 none late (eqb-false 11 0 refl))))

  pub put_early : ((early_refusal s number t).no ≡ 0 → ⊥) → early_refusal s number t ≡ put_refusal s number t room
  put_early b = first_here (early_refusal s number t) late b ∙ split

  pub put_late : (early_refusal s number t).no ≡ 0 → late ≡ put_refusal s number t room
  put_late e = first_next (early_refusal s number t) late e ∙ split
