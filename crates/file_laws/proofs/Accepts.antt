-- A file with every part in order has no refusal; and what it means that a number is fresh.
use mathlib.Core.Path.{◌≡◌, refl, sym, ap, ◌∙◌}
use mathlib.Core.Bool.{Bool, true, false}
use Prim.Native.Nat.{ℕ, ◌≤◌, ◌<◌}
use native.Mathlib.Omega.{arith}
use mathlib.Core.List.{List}
use lib.Dec.{eqb}
use borrow.Author.Tests.{eqb-false, ne_eqb}
use Rattle.basics.proofs.Range.{inside_of}
use Rattle.refusal.specs.Refusal.{Numbered, none, in_entry}
use Rattle.basics.proofs.Least.{least_below, least_none}
use Rattle.file_kinds.specs.Kinds.{kind_of, is_table}
use Rattle.file_entries.specs.Entries.{count_of, kind_at, number_at, body_at, seek_in}
use Rattle.file_contents.specs.Contents.{head_refusal, entry_refusal, entries_refusal, contents_refusal}
use Rattle.refusal.proofs.Order.{first_next, turn_fine}
use Rattle.file_contents.proofs.Steps.{head_fine, entry_fine, all_fine}
use Rattle.file_contents.proofs.Fine.{HeadFine, EntryFine, ContentsFine}
use Rattle.file_bodies.specs.Refusal.{body_refusal}
use Rattle.file_bodies.proofs.Refusals.{BodyFine, body_table_lem}
use Rattle.file_check.specs.Check.{part_refusal, file_refusal}
use Rattle.file_check.proofs.Steps.{part_table, part_note, file_parts}
use Rattle.file_check.proofs.Fine.{PartFine, FileFine}

abbrev code : Numbered → ℕ
code r = r.no

-- a number is fresh where no earlier entry has it
module _ (s : List ℕ) (i : ℕ) where
  abbrev used : ℕ → Bool
  used j = eqb (number_at s j) (number_at s i)

  pub fresh_of : i ≤ seek_in s (number_at s i) i → (j : ℕ) → j < i → number_at s j ≡ number_at s i → ⊥
  unfolding seek_in
  fresh_of h j l = eqb-false _ _ (least_below used i j (omega arith))

  pub of_fresh : ((j : ℕ) → j < i → number_at s j ≡ number_at s i → ⊥) → i ≤ seek_in s (number_at s i) i
  unfolding seek_in
  of_fresh f = omega (arith, least_none used i (λ j l. ne_eqb _ _ (f j l)))

pub body_none : (b : List ℕ) → BodyFine b → (body_refusal b).no ≡ 0
body_none b f = sym (ap code (body_table_lem b f.four f.zeroed f.long)) ∙ f.table

module _ (s : List ℕ) where
  head_none : HeadFine s → head_refusal s ≡ 0
  head_none h = sym (head_fine s (inside_of _ _ _ h.four h.most) h.form (inside_of _ _ _ h.some h.few) h.room)

  entry_none : (i : ℕ) → EntryFine s i → entry_refusal s i ≡ 0
  entry_none i f = sym (entry_fine s i f.kind f.start f.end f.fresh)

  contents_none : ContentsFine s → (contents_refusal s).no ≡ 0
  unfolding contents_refusal
  contents_none f =
      let all = all_fine s (count_of s) refl (λ i l. entry_none i (f.entry i l)) f.whole in
      sym (ap code (all ∙ first_next _ (entries_refusal s) (head_none f.head)))

  part_none : (i : ℕ) → PartFine s i → (part_refusal s i).no ≡ 0
  part_none i f = go (is_table (kind_of (kind_at s i))) refl
    where
      go : (b : Bool) → is_table (kind_of (kind_at s i)) ≡ b → (part_refusal s i).no ≡ 0
      go true t = sym (ap code (part_table s i f.sum t)) ∙ body_none (body_at s i) (f.table t)
      go false t = sym (ap code (part_note s i f.sum t))

  pub file_none : FileFine s → none ≡ file_refusal s
  file_none f =
      turn_fine (λ i. in_entry i (part_refusal s i)) (count_of s) (λ i l. part_none i (f.part i l))
      ∙ file_parts s (contents_none f.contents)
