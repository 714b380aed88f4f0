-- Find in an accepted file is find over its entries.
use Rattle.std.proofs.Common.{None}
use mathlib.Core.Path.{◌≡◌, refl, sym, ap, ◌∙◌}
use mathlib.Core.Bool.{Bool, true, false, cond}
use Prim.Native.Nat.{ℕ, zero, suc, ◌+◌}
use native.Mathlib.Nat.{zero-add}
use native.Mathlib.Omega.{arith}
use mathlib.Core.List.{List}
use lib.Dec.{ltb, eqb}
use borrow.Author.Tests.{lt-ltb, le-ltb}
use Rattle.basics.specs.Least.{least_from, least}
use Rattle.refusal.specs.Refusal.{refuse, none}
use Rattle.basics.specs.When.{unless}
use Rattle.table.specs.Rows.{no_table}
use Rattle.file_kinds.specs.Kinds.{kind_of, is_table}
use Rattle.file_entries.specs.Entries.{count_of, kind_at, number_at, seek_in, seek_of, kind_under}
use Rattle.file_contents.specs.File.{entry_at, entries_from, entries_of}
use Rattle.refusal.proofs.Order.{first_next}
use Rattle.file_bodies.specs.Body.{table_at}
use Rattle.file_check.specs.Find.{Found}
use Rattle.file_check.specs.Check.{file_refusal}
use Rattle.file_check.specs.Find.{table_has, find_refusal, find_of}
use Rattle.file_laws.specs.FindIn.{found, lost, find_in}

module _ (s : List ℕ) (number : ℕ) where
  abbrev has : ℕ → Bool
  has i = eqb (number_at s i) number

  -- the answer from where the number stands, if it stands below an end
  abbrev answer : ℕ → ℕ → Found
  answer i end = cond (is_table (cond (ltb i end) (kind_of (kind_at s i)) None)) (found (table_at s i)) lost

  find_from : (i k : ℕ) → answer (least_from has i k) (i + k) ≡ find_in (entries_from s i k) number
  unfolding find_in entries_from entry_at least_from table_at
  find_from i zero = rw (le-ltb i (i + 0) (omega arith))
  find_from i (suc k) = go (has i) (find_from (suc i) k)
    where
      go : (b : Bool) → answer (least_from has (suc i) k) (suc i + k) ≡ find_in (entries_from s (suc i) k) number
          → answer (cond b i (least_from has (suc i) k)) (i + suc k)
          ≡ cond b (cond (is_table (kind_of (kind_at s i))) (found (table_at s i)) lost) (find_in (entries_from s (suc i) k) number)
      go true next = rw (lt-ltb i (i + suc k) (omega arith))
      go false next = let turn : i + suc k ≡ suc i + k = omega arith in rw turn next

  found_by : (file_refusal s).no ≡ 0 → find_of s number ≡ answer (seek_of s number) (count_of s)
  unfolding find_of find_refusal kind_under unless
  found_by h = rw (← first_next (file_refusal s) (cond (table_has s number) none (refuse 17)) h) (go (table_has s number))
    where
      go : (b : Bool)
          → ◌≡◌ {A = Found} (record {
            refusal = cond b none (refuse 17);
            table = cond (eqb (cond b none (refuse 17)).no 0) (table_at s (seek_of s number)) no_table;
          }) (cond b (found (table_at s (seek_of s number))) lost)
      go true = refl
      go false = refl

  pub find_entries : (file_refusal s).no ≡ 0 → find_of s number ≡ find_in (entries_of s) number
  unfolding entries_of seek_in least
  find_entries h = found_by h ∙ ap (answer (seek_of s number)) (sym (zero-add (count_of s))) ∙ find_from 0 (count_of s)
