-- The entries that are written are the old file's with the new one put in by its number.
use Rattle.std.proofs.Common.{◌≡◌, Bool, true, false, cond, Option, Some, None, unwrap_or, ◌⊎◌, inl, inr, ℕ, zero, suc, ◌+◌, ◌≤◌, ◌<◌, zero-le, add-one, zero-add, eqb, ltb, List, [], ◌∷◌, map, length, take, refl, sym, ap, ap₂, ◌∙◌, eq-eqb, le-ltb, arith}
use Rattle.std.specs.List.{range_with_len}
use Rattle.std.proofs.lemmas.List.{get_or-map, get_or-take, length-map, length-take-le}
use Rattle.std.proofs.lemmas.List.FromFn.{fill_by_all, length-map-range_with_len}
use Rattle.std.proofs.lemmas.Option.{get_or_from_slice_get}
use mathlib.Core.Logic.{⊎_elim}
use native.Mathlib.Nat.{eq-or-lt_of_le}
use native.Mathlib.Decide.{ℕ_discrete}
use borrow.Author.Tests.{ne_eqb, lt-ltb, eqb-true, eqb-false}
use Rattle.basics.proofs.Least.{least_le, least_below, least_here}
use Rattle.file_entries.specs.Limits.{most_entries}
use Rattle.file_entries.specs.Entries.{count_of, number_at, sought, seek_in, seek_of}
use Rattle.file_entries.proofs.Seeks.{sought_here, sought_past}
use Rattle.file_contents.specs.File.{Entry, entry_at, entries_from, entries_of}
use Rattle.file_write.specs.declared.Source.{Source}
use Rattle.file_write.specs.declared.Source.TheVariants.{New}
use Rattle.file_write.specs.Sources.{source_entry, entries_by}
use Rattle.file_new.specs.New.{put_entry}
use Rattle.file_new.specs.Steps.{source_of, Sources, count_with, new_count}

-- entry j of the new file, whose entry i is the new one
abbrev new_at : List ℕ → ℕ → Entry → ℕ → Entry
new_at s i new j = source_entry s new (source_of i j)

module _ (s : List ℕ) (i : ℕ) (new : Entry) where
  at_new : new_at s i new i ≡ new
  at_new = rw (eq-eqb i i refl)

  at_old : (j : ℕ) → (j ≡ i → ⊥) → new_at s i new j ≡ entry_at s j
  at_old j n = rw (ne_eqb j i n)

  -- the entries of the new file from entry k on
  abbrev from : ℕ → ℕ → List Entry
  from k m = map (new_at s i new) (range_with_len k m)

  next : (k m : ℕ) → from (k + 1) m ≡ from (suc k) m
  next k m = ap (λ (j : ℕ). from j m) (add-one k)

  -- past i every entry is the old one
  past : (k m : ℕ) → i < k → from k m ≡ entries_from s k m
  unfolding entries_from
  past k zero h = refl
  past k (suc m) h = ap₂ (λ (e : Entry) (l : List Entry). e ∷ l) (at_old k (λ q. omega arith)) (next k m ∙ past (suc k) m (omega arith))

  suc_cond : (t : Bool) (m : ℕ) → cond t (suc m) (suc (suc m)) ≡ suc (cond t m (suc m))
  suc_cond true m = refl
  suc_cond false m = refl

  -- from an entry on that is not past i, where i is the first entry with the number, or past the last
  put_from : (m k : ℕ) → k ≤ i → i ≤ k + m → ((j : ℕ) → j < i → number_at s j ≡ new.number → ⊥) → (i < k + m → number_at s i ≡ new.number)
      → from k (cond (ltb i (k + m)) m (suc m)) ≡ put_entry (entries_from s k m) new
  unfolding entries_from put_entry entry_at
  put_from zero k low high miss hit =
      let e : k ≡ i = omega arith in
      rw (le-ltb i (k + zero) (omega arith)) (ap (λ (x : Entry). x ∷ []) (ap (new_at s i new) e ∙ at_new))
  put_from (suc m) k low high miss hit = go (ℕ_discrete (number_at s k) new.number) (λ h. put_from m (suc k) h (omega arith) miss (λ l. hit (omega arith)))
    where
      found : number_at s k ≡ new.number → k ≡ i
      found e = ⊎_elim (λ q. q) (λ l. absurd (miss k l e)) (eq-or-lt_of_le low)

      -- the entry k is not the one
      go : Dec (number_at s k ≡ new.number)
          → (suc k ≤ i → from (suc k) (cond (ltb i (suc k + m)) m (suc m)) ≡ put_entry (entries_from s (suc k) m) new)
          → from k (cond (ltb i (k + suc m)) (suc m) (suc (suc m))) ≡ put_entry (entries_from s k (suc m)) new
      go (yes e) turn =
          let q = found e in
          rw (lt-ltb i (k + suc m) (omega arith), eq-eqb (number_at s k) new.number e)
          (ap₂ (λ (x : Entry) (l : List Entry). x ∷ l) (ap (new_at s i new) q ∙ at_new) (next k m ∙ past (suc k) m (omega arith)))
      go (no n) turn =
          let l : suc k ≤ i = later (eq-or-lt_of_le low) n in
          let p : k + suc m ≡ suc k + m = omega arith in
          rw (p, suc_cond (ltb i (suc k + m)) m, ne_eqb (number_at s k) new.number n)
          (ap₂ (λ (x : Entry) (l : List Entry). x ∷ l) (at_old k (λ q. omega arith)) (next k _ ∙ turn l))
        where
          later : (k ≡ i) ⊎ (k < i) → (number_at s k ≡ new.number → ⊥) → suc k ≤ i
          later (inl q) n = absurd (n (rw q (hit (omega arith))))
          later (inr l) n = l

-- the number of entries, by whether the new one is among the old ones
pub count_with_is : (i n : ℕ) → count_with n i ≡ cond (ltb i n) n (n + 1)
count_with_is i n = refl

-- and `new_count` of what a search found gives the same
pub count_is : (i n : ℕ) → new_count n (sought i n) ≡ cond (ltb i n) n (n + 1)
unfolding sought
count_is i n = go (ltb i n)
  where
    go : (t : Bool) → new_count n (cond t (Some i) None) ≡ cond t n (n + 1)
    go true = refl
    go false = refl

-- the place of the new entry is where the search came to
place_of_sought : (i n : ℕ) → i ≤ n → unwrap_or (sought i n) n ≡ i
place_of_sought i n h = ⊎_elim (λ e. ap (λ (r : Option ℕ). unwrap_or r n) (sought_past i n (omega arith)) ∙ sym e) (λ l. ap (λ (r : Option ℕ). unwrap_or r n) (sought_here i n l)) (eq-or-lt_of_le h)

pub place_is : (s : List ℕ) (number : ℕ) → unwrap_or (sought (seek_of s number) (count_of s)) (count_of s) ≡ seek_of s number
unfolding seek_in
place_is s number = place_of_sought (seek_of s number) (count_of s) (omega (arith, least_le (λ j. eqb (number_at s j) number) (count_of s)))

-- the old file's entries with the new one put in
module _ (s : List ℕ) (new : Entry) where
  abbrev place : ℕ
  place = seek_of s new.number

  abbrev many : ℕ
  many = count_with (count_of s) place

  put_run : map (new_at s place new) (range_with_len 0 many) ≡ put_entry (entries_of s) new
  unfolding entries_of seek_in
  put_run =
      let p : ℕ → Bool = λ j. eqb (number_at s j) new.number in
      let n = count_of s in
      ap (from s place new 0) (ap₂ (λ (k m : ℕ). cond (ltb place k) n m) (sym (zero-add n)) (add-one n))
      ∙ put_from s place new n 0 zero-le (omega (arith, least_le p n)) (λ j h e. eqb-false _ _ (least_below p n j h) e) (λ h. eqb-true _ _ (least_here p n (omega arith)))

  -- are those of the sources
  pub entered : (sources : List Source) → Sources place sources → many ≤ most_entries → entries_by s new (take many sources) ≡ put_entry (entries_of s) new
  entered sources h few =
      let f = source_entry s new in
      let l = take many sources in
      let n = length-take-le many sources (omega (arith, h.many)) in
      fill_by_all (new_at s place new) (map f l) many (f New) (length-map l f ∙ n) (λ j k.
      get_or-map f l j New (f New) (omega (arith, n))
      ∙ ap f (get_or-take many sources j New k ∙ get_or_from_slice_get sources j _ New (h.each j (omega arith))))
      ∙ put_run

  -- and as many as the code counts
  pub entered_count : length (put_entry (entries_of s) new) ≡ many
  entered_count = ap length (sym put_run) ∙ length-map-range_with_len (new_at s place new) 0 many

  -- the same, counted by `new_count` of what the search found
  abbrev sought_many : ℕ
  sought_many = new_count (count_of s) (sought place (count_of s))

  pub entered_sought : (sources : List Source) → Sources place sources → sought_many ≤ most_entries → entries_by s new (take sought_many sources) ≡ put_entry (entries_of s) new
  entered_sought sources h few =
      let e = count_is place (count_of s) in
      ap (λ (k : ℕ). entries_by s new (take k sources)) e ∙ entered sources h (omega (arith, e))

  pub sought_count : length (put_entry (entries_of s) new) ≡ sought_many
  sought_count = entered_count ∙ sym (count_is place (count_of s))
