-- An accepted file is the bytes of its entries, which are valid; and the bytes of valid entries are accepted.
use mathlib.Core.Path.{◌≡◌, refl, sym, ap, ◌∙◌}
use mathlib.Core.Logic.{⊎_elim}
use Prim.Native.Nat.{ℕ, zero, suc, ◌+◌, ◌≤◌, ◌<◌}
use native.Mathlib.Nat.{eq-or-lt_of_le, add-zero, zero-add, le_refl}
use native.Mathlib.Omega.{arith}
use mathlib.Core.List.{List}
use lib.ListN.{length, drop, length-drop}
use lib.Seq.{length-take-le}
use Rattle.refusal.specs.Refusal.{none}
use Rattle.file_entries.specs.Limits.{most_bytes, after_entries}
use Rattle.file_entries.specs.Entries.{count_of, number_at, start_at, length_at, body_at, place_of}
use Rattle.file_contents.specs.File.{Entry, encode, entry_at, entries_from, entries_of}
use Rattle.file_contents.proofs.Fine.{EntryFine}
use Rattle.file_bodies.proofs.Refusals.{body_is_fine}
use Rattle.file_check.specs.Check.{file_refusal}
use Rattle.file_check.proofs.Fine.{PartFine, FileFine, file_is_fine}
use Rattle.file_laws.specs.Valid.{Bytes, ValidEntry, ValidEntries}
use Rattle.file_laws.proofs.Numbers.{at16_small}
use Rattle.file_laws.proofs.Bytes.{bytes_part}
use Rattle.file_laws.proofs.Entries.{length_entries, each_from, each_at, different_from, different_at}
use Rattle.file_laws.proofs.Laid.{EntryIs, Laid, Lies, encode_lies, entries_back}
use Rattle.file_laws.proofs.Back.{lies_back}
use Rattle.file_laws.proofs.Accepts.{fresh_of, of_fresh, body_none, file_none}

-- an accepted file's entries lie in it, and are valid
module _ (s : List ℕ) where
  length_body : (i : ℕ) → EntryFine s i → length (body_at s i) ≡ length_at s i
  unfolding body_at
  length_body i f = length-take-le (length_at s i) (drop (start_at s i) s) (simp length-drop (omega (arith, f.start, f.end)))

  entry_lies : (i : ℕ) → EntryFine s i → PartFine s i → EntryIs s i (place_of s i) (entry_at s i)
  unfolding entry_at
  entry_lies i f p = record { kind = refl; number = refl; start = f.start; size = sym (length_body i f); sum = sym p.sum; body = refl }

  laid_from : (i k : ℕ) → ((j : ℕ) → i ≤ j → j < i + k → EntryFine s j × PartFine s j) → place_of s (i + k) ≡ length s
      → Laid s i (place_of s i) (entries_from s i k)
  unfolding entries_from entry_at place_of
  laid_from i zero f e = ap (place_of s) (sym (add-zero i)) ∙ e
  laid_from i (suc k) f e =
      let here = f i (omega arith) (omega arith) in
      let turn : suc i + k ≡ i + suc k = omega arith in (
        entry_lies i here.0 here.1,
        rw (length_body i here.0) (laid_from (suc i) k (λ j h l. f j (omega arith) (omega arith)) (ap (place_of s) turn ∙ e)),
      )

  fine_lies : FileFine s → Lies s (entries_of s)
  unfolding entries_of place_of
  fine_lies f = record {
    count = sym (length_entries s);
    form = f.contents.head.form;
    laid =
        rw (length_entries s)
        (laid_from 0 (count_of s) (λ j h l. (f.contents.entry j (omega arith), f.part j (omega arith))) (ap (place_of s) (zero-add (count_of s)) ∙ f.contents.whole));
  }

  entry_valid : Bytes s → (i : ℕ) → EntryFine s i → PartFine s i → ValidEntry (entry_at s i)
  unfolding entry_at number_at body_at
  entry_valid b i f p = record {
    kind = f.kind;
    number = omega (arith, at16_small s (after_entries i + 2) b);
    bytes = bytes_part s (start_at s i) (length_at s i) b;
    table = λ t. body_none (body_at s i) (p.table t);
  }

  module _ (bytes : Bytes s) (is : (file_refusal s).no ≡ 0) where
    f : FileFine s
    f = file_is_fine s is

    pub file_back : encode (entries_of s) ≡ s
    file_back = lies_back s (entries_of s) bytes (rw (length_entries s) f.contents.head.room) (fine_lies f)

    pub file_valid : ValidEntries (entries_of s)
    unfolding entries_of
    file_valid = record {
      some = omega (arith, length_entries s, f.contents.head.some);
      few = omega (arith, length_entries s, f.contents.head.few);
      each = each_from s ValidEntry 0 (count_of s) (λ j h l. entry_valid bytes j (f.contents.entry j (omega arith)) (f.part j (omega arith)));
      different = different_from s 0 (count_of s) (λ j k h g l. fresh_of s k (f.contents.entry k (omega arith)).fresh j g);
      short = omega (arith, ap length file_back, f.contents.head.most);
    }

-- where valid entries lie, each part is in order
module _ (s : List ℕ) where
  place_up : (i j : ℕ) → i ≤ j → place_of s i ≤ place_of s j
  unfolding place_of
  place_up i zero h = let e : i ≡ 0 = omega arith in rw e (le_refl _)
  place_up i (suc j) h = ⊎_elim (λ e. rw e (le_refl _)) (λ l. omega (arith, place_up i j (omega arith))) (eq-or-lt_of_le h)

  -- each body starts where it must, and the last one ends the file
  places : (i k : ℕ) → Laid s i (place_of s i) (entries_from s i k)
      → ((j : ℕ) → i ≤ j → j < i + k → EntryIs s j (place_of s j) (entry_at s j)) × (place_of s (i + k) ≡ length s)
  unfolding entries_from entry_at place_of
  places i zero l = (λ j h g. absurd (omega arith), ap (place_of s) (add-zero i) ∙ l)
  places i (suc k) l =
      let turn : i + suc k ≡ suc i + k = omega arith in
      let next = places (suc i) k (rw l.0.size l.1) in
      (λ j h g. ⊎_elim (λ e. rw (← e) l.0) (λ q. next.0 j q (omega arith)) (eq-or-lt_of_le h), ap (place_of s) turn ∙ next.1)

  module _ (most : length s ≤ most_bytes) (lies : Lies s (entries_of s)) (valid : ValidEntries (entries_of s)) where
    laid : Laid s 0 (place_of s 0) (entries_from s 0 (count_of s))
    unfolding entries_of place_of
    laid = rw (length_entries s) at lies.laid

    whole : place_of s (count_of s) ≡ length s
    whole = ap (place_of s) (sym (zero-add (count_of s))) ∙ (places 0 (count_of s) laid).1

    is : (i : ℕ) → i < count_of s → EntryIs s i (place_of s i) (entry_at s i)
    is i h = (places 0 (count_of s) laid).0 i (omega arith) (omega arith)

    each : (i : ℕ) → i < count_of s → ValidEntry (entry_at s i)
    unfolding entries_of
    each i h = each_at s ValidEntry 0 (count_of s) valid.each i (omega arith) (omega arith)

    entry : (i : ℕ) → i < count_of s → EntryFine s i
    unfolding entries_of place_of entry_at
    entry i h = record {
      kind = (each i h).kind;
      start = (is i h).start;
      end = omega (arith, place_up (suc i) (count_of s) h, whole);
      fresh = of_fresh s i (λ j l. different_at s 0 (count_of s) valid.different j i (omega arith) l (omega arith));
    }

    part : (i : ℕ) → i < count_of s → PartFine s i
    unfolding entry_at
    part i h = record { sum = sym (is i h).sum; table = λ t. body_is_fine (body_at s i) ((each i h).table t) }

    room : after_entries (count_of s) ≤ length s
    unfolding place_of
    room = omega (arith, place_up 0 (count_of s) (omega arith), whole)

    fine_of : FileFine s
    fine_of = record {
      contents = record {
        head = record {
          four = omega (arith, room);
          most = most;
          form = lies.form;
          some = omega (arith, length_entries s, valid.some);
          few = omega (arith, length_entries s, valid.few);
          room = room;
        };
        entry = entry;
        whole = whole;
      };
      part = part;
    }

pub encode_fine : (es : List Entry) → ValidEntries es → none ≡ file_refusal (encode es)
encode_fine es valid =
    let back = entries_back es in
    file_none (encode es) (fine_of (encode es) (omega (arith, valid.short)) (rw back (encode_lies es)) (rw back valid))
