-- What it tells of a file that it has no refusal.
use mathlib.Core.Path.{◌≡◌, refl}
use mathlib.Core.Bool.{true}
use Prim.Native.Nat.{ℕ, ◌<◌}
use mathlib.Core.List.{List}
use Rattle.refusal.specs.Refusal.{in_entry}
use Rattle.std.proofs.Common.{arith}
use Rattle.std.proofs.lemmas.Bool.Decides.{nat_tests}
use Rattle.file_bytes.specs.Sum.{sum_of}
use Rattle.basics.specs.When.{when, unless}
use Rattle.refusal.specs.Order.{first, in_turn}
use Rattle.file_kinds.specs.Kinds.{kind_of, is_table}
use Rattle.file_entries.specs.Entries.{count_of, kind_at, sum_at, body_at, seek_of}
use Rattle.file_entries.proofs.Under.{under_is}
use Rattle.file_contents.specs.Contents.{contents_refusal}
use Rattle.refusal.proofs.Order.{first_fine, turn_all}
use Rattle.file_contents.proofs.Fine.{ContentsFine, contents_are_fine}
use Rattle.file_bodies.proofs.Refusals.{BodyFine, body_is_fine}
use Rattle.file_check.specs.Check.{part_refusal, file_refusal}
use Rattle.file_check.specs.Find.{find_refusal}

-- the sum is right, and a table's body is in order
pub record PartFine (s : List ℕ) (i : ℕ) : Type 0 where
  pub sum : sum_of (body_at s i) ≡ sum_at s i
  pub table : is_table (kind_of (kind_at s i)) ≡ true → BodyFine (body_at s i)

pub part_is_fine : (s : List ℕ) (i : ℕ) → (part_refusal s i).no ≡ 0 → PartFine s i
unfolding part_refusal unless when
part_is_fine s i h = record { sum = grind (arith, nat_tests); table = λ t. body_is_fine (body_at s i) (grind (arith, nat_tests)) }

-- an accepted file
pub record FileFine (s : List ℕ) : Type 0 where
  pub contents : ContentsFine s
  pub part : (i : ℕ) → i < count_of s → PartFine s i

pub file_is_fine : (s : List ℕ) → (file_refusal s).no ≡ 0 → FileFine s
unfolding file_refusal
file_is_fine s h =
    let a = first_fine (contents_refusal s) (in_turn (λ i. in_entry i (part_refusal s i)) (count_of s)) h in
    record {
      contents = contents_are_fine s a.0;
      part = λ i l. part_is_fine s i (turn_all (λ i. in_entry i (part_refusal s i)) (count_of s) a.1 i l);
    }

-- a number that find answers with a table
pub record FoundFine (s : List ℕ) (number : ℕ) : Type 0 where
  pub file : (file_refusal s).no ≡ 0
  pub below : seek_of s number < count_of s
  pub table : is_table (kind_of (kind_at s (seek_of s number))) ≡ true

pub found_is_fine : (s : List ℕ) (number : ℕ) → (find_refusal s number).no ≡ 0 → FoundFine s number
unfolding find_refusal first unless
found_is_fine s number h =
    let d = under_is s number is_table refl (grind (arith, nat_tests)) in
    record { file = grind (arith, nat_tests); below = d.0; table = d.1 }
