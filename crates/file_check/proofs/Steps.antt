-- How the code comes to each answer of the check and of find.
use Rattle.std.proofs.Common.{◌≡◌, ℕ, ◌<◌, true, false, List, Some, None, Ok, Err, refl, sym, ap, ◌∙◌}
use borrow.Author.Tests.{eq-eqb, ne_eqb}
use Rattle.refusal.specs.declared.Refusal.{Refusal}
use Rattle.refusal.specs.Refusal.{Numbered, refuse, none, in_entry}
use Rattle.refusal.specs.Told.{told}
use Rattle.refusal.proofs.Told.{number_some}
use Rattle.table.specs.Rows.{no_table}
use Rattle.file_bytes.specs.Sum.{sum_of}
use Rattle.basics.specs.When.{when, unless}
use Rattle.refusal.specs.Order.{first, in_turn}
use Rattle.file_kinds.specs.Kinds.{kind_of, is_table}
use Rattle.file_entries.specs.Entries.{count_of, kind_at, sum_at, body_at, sought, seek_of}
use Rattle.file_entries.proofs.Seeks.{sought_some}
use Rattle.file_entries.proofs.Under.{under_found, under_missing}
use Rattle.file_contents.specs.Contents.{contents_refusal}
use Rattle.refusal.proofs.Order.{first_here, first_next, turn_here}
use Rattle.file_bodies.specs.Body.{table_at}
use Rattle.file_bodies.specs.Refusal.{body_refusal}
use Rattle.file_check.specs.Check.{part_refusal, file_refusal, counted, refused_by, check_file}
use Rattle.file_check.specs.Find.{table_has, find_refusal, Found, found, find_of}

-- 14, and the refusals of a table's body
module _ (s : List ℕ) (i : ℕ) where
  pub part_sum : (sum_of (body_at s i) ≡ sum_at s i → ⊥) → refuse 14 ≡ part_refusal s i
  unfolding part_refusal unless
  part_sum p = rw (ne_eqb _ _ p)

  module _ (p : sum_of (body_at s i) ≡ sum_at s i) where
    pub part_table : is_table (kind_of (kind_at s i)) ≡ true → body_refusal (body_at s i) ≡ part_refusal s i
    unfolding part_refusal unless when
    part_table q = rw (eq-eqb _ _ p, q)

    pub part_note : is_table (kind_of (kind_at s i)) ≡ false → none ≡ part_refusal s i
    unfolding part_refusal unless when
    part_note q = rw (eq-eqb _ _ p, q)

-- the bodies in turn
pub parts_refused : (s : List ℕ) (n i : ℕ) (r e : Refusal) → ((k : ℕ) → k < i → (part_refusal s k).no ≡ 0) → told r ≡ part_refusal s i → told e ≡ in_entry i (told r) → i < n
    → told e ≡ in_turn (λ i. in_entry i (part_refusal s i)) n
parts_refused s n i r e before p q l =
    q ∙ ap (in_entry i) p ∙ turn_here _ n i before (λ z. number_some r.rule (ap (λ (a : Numbered). a.no) p ∙ z)) l

-- the contents, then the bodies in turn
module _ (s : List ℕ) where
  pub file_contents : ((contents_refusal s).no ≡ 0 → ⊥) → contents_refusal s ≡ file_refusal s
  unfolding file_refusal
  file_contents b = first_here (contents_refusal s) (in_turn (λ i. in_entry i (part_refusal s i)) (count_of s)) b

  pub file_parts : (contents_refusal s).no ≡ 0 → in_turn (λ i. in_entry i (part_refusal s i)) (count_of s) ≡ file_refusal s
  unfolding file_refusal
  file_parts e = first_next (contents_refusal s) (in_turn (λ i. in_entry i (part_refusal s i)) (count_of s)) e

  pub check_refused : ((file_refusal s).no ≡ 0 → ⊥) → refused_by (file_refusal s) ≡ check_file s
  unfolding check_file
  check_refused b = rw (ne_eqb _ _ b)

  pub check_entries : (file_refusal s).no ≡ 0 → counted (count_of s) ≡ check_file s
  unfolding check_file
  check_entries e = rw (eq-eqb _ _ e)

-- the entry that has the number
module _ (s : List ℕ) (number : ℕ) where
  -- the file, then 17
  pub find_file : ((file_refusal s).no ≡ 0 → ⊥) → file_refusal s ≡ find_refusal s number
  unfolding find_refusal
  find_file b = first_here (file_refusal s) (unless (table_has s number) (refuse 17) none) b

  pub find_fine : (file_refusal s).no ≡ 0 → table_has s number ≡ true → none ≡ find_refusal s number
  unfolding find_refusal unless
  find_fine e h = (rw h refl) ∙ first_next (file_refusal s) (unless (table_has s number) (refuse 17) none) e

  pub find_none : (file_refusal s).no ≡ 0 → table_has s number ≡ false → refuse 17 ≡ find_refusal s number
  unfolding find_refusal unless
  find_none e h = (rw h refl) ∙ first_next (file_refusal s) (unless (table_has s number) (refuse 17) none) e

  -- what find answers
  pub found_none : ((find_refusal s number).no ≡ 0 → ⊥) → ◌≡◌ {A = Found} (record { refusal = find_refusal s number; table = no_table }) (find_of s number)
  unfolding find_of
  found_none b = rw (ne_eqb _ _ b)

  pub found_table : (find_refusal s number).no ≡ 0 → ◌≡◌ {A = Found} (record { refusal = find_refusal s number; table = table_at s (seek_of s number) }) (find_of s number)
  unfolding find_of
  found_table e = rw (eq-eqb _ _ e)

  -- by the case of the answer: the file's refusal, 17, the table
  find_refused : (r : Refusal) → told r ≡ find_refusal s number → found (Err r) ≡ find_of s number
  unfolding find_of
  find_refused r e = rw (← e, ne_eqb _ _ (number_some r.rule))

  pub find_file_refused : (r : Refusal) → told r ≡ file_refusal s → found (Err r) ≡ find_of s number
  find_file_refused r e = find_refused r (e ∙ find_file (rw (← e) (number_some r.rule)))

  find_no_table : (r : Refusal) → none ≡ file_refusal s → table_has s number ≡ false → told r ≡ refuse 17 → found (Err r) ≡ find_of s number
  find_no_table r e h q = find_refused r (q ∙ find_none (rw (← e)) h)

  pub find_missing : (r : Refusal) → none ≡ file_refusal s → None ≡ sought (seek_of s number) (count_of s) → told r ≡ refuse 17 → found (Err r) ≡ find_of s number
  find_missing r e h = find_no_table r e (ap is_table (sym (under_missing s number h)))

  pub find_note : (r : Refusal) (i : ℕ) → none ≡ file_refusal s → Some i ≡ sought (seek_of s number) (count_of s) → is_table (kind_of (kind_at s i)) ≡ false → told r ≡ refuse 17
      → found (Err r) ≡ find_of s number
  find_note r i e h k = find_no_table r e (ap is_table (sym (under_found s number i h)) ∙ k)

  pub find_table : (i : ℕ) → none ≡ file_refusal s → Some i ≡ sought (seek_of s number) (count_of s) → is_table (kind_of (kind_at s i)) ≡ true
      → found (Ok (table_at s i)) ≡ find_of s number
  unfolding find_of find_refusal first unless
  find_table i e h k =
      let has : table_has s number ≡ true = ap is_table (sym (under_found s number i h)) ∙ k in
      rw (← e, has, (sought_some _ _ i h).0)
