-- A body's refusals where its bytes are in order, and what it tells that there is none.
use mathlib.Core.Path.{◌≡◌}
use Prim.Native.Nat.{ℕ, ◌≤◌}
use mathlib.Core.List.{List}
use lib.ListN.{length}
use borrow.Author.Tests.{eq-eqb, le-ltb}
use Rattle.refusal.specs.Refusal.{Numbered}
use Rattle.std.proofs.Common.{arith}
use Rattle.std.proofs.lemmas.Bool.Decides.{nat_tests}
use Rattle.basics.specs.When.{when, unless}
use Rattle.file_bodies.specs.Layout.{body_head, body_length, count_in, zero_in}
use Rattle.file_bodies.specs.Body.{body_table}
use Rattle.file_bodies.specs.Refusal.{body_refusal}
use Rattle.table.specs.Check.{table_refusal}

pub body_table_lem : (b : List ℕ) → body_head ≤ length b → zero_in b ≡ 0 → length b ≡ body_length (count_in b) → table_refusal (body_table b) ≡ body_refusal b
unfolding body_refusal when unless
body_table_lem b h p q = rw (le-ltb _ _ h, eq-eqb _ _ p, eq-eqb _ _ q)

-- a body that is not refused
pub record BodyFine (b : List ℕ) : Type 0 where
  pub four : body_head ≤ length b
  pub zeroed : zero_in b ≡ 0
  pub long : length b ≡ body_length (count_in b)
  pub table : (table_refusal (body_table b)).no ≡ 0

abbrev no : Numbered → ℕ
no r = r.no

pub body_is_fine : (b : List ℕ) → (body_refusal b).no ≡ 0 → BodyFine b
unfolding body_refusal when unless
body_is_fine b h = record {
  four = grind (arith, nat_tests);
  zeroed = grind (arith, nat_tests);
  long = grind (arith, nat_tests);
  table = grind (arith, nat_tests);
}
