-- "Numbers are all different": in an accepted file, entries with the same number are the same entry.
use mathlib.Core.Path.{◌≡◌, sym}
use Prim.Native.Nat.{ℕ, ◌<◌}
use native.Mathlib.Decide.{dec_lt}
use native.Mathlib.Omega.{arith}
use mathlib.Core.List.{List}
use Rattle.file_entries.specs.Entries.{count_of, number_at}
use Rattle.file_check.specs.Check.{file_refusal}
use Rattle.file_check.proofs.Fine.{file_is_fine}
use Rattle.file_laws.proofs.Accepts.{fresh_of}

module _ (s : List ℕ) (is : (file_refusal s).no ≡ 0) where
  earlier : (i j : ℕ) → i < j → j < count_of s → number_at s i ≡ number_at s j → ⊥
  earlier i j h l = fresh_of s j ((file_is_fine s is).contents.entry j l).fresh i h

  pub number_once : (i j : ℕ) → i < count_of s → j < count_of s → number_at s i ≡ number_at s j → i ≡ j
  number_once i j k l e = go (dec_lt i j) (dec_lt j i)
    where
      go : Dec (i < j) → Dec (j < i) → i ≡ j
      go (yes p) q = absurd (earlier i j p l e)
      go (no p) (yes q) = absurd (earlier j i q k (sym e))
      go (no p) (no q) = omega arith
