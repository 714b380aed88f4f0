-- The entries that a file says it has, one by one.
use mathlib.Core.Path.{◌≡◌, refl, sym, ap, ◌∙◌}
use mathlib.Core.Logic.{⊎_elim}
use Prim.Native.Nat.{ℕ, zero, suc, ◌+◌, ◌≤◌, ◌<◌}
use native.Mathlib.Nat.{eq-or-lt_of_le, add-zero, zero-add}
use native.Mathlib.Omega.{arith}
use mathlib.Core.List.{List}
use lib.ListN.{length, get_or}
use Rattle.file_entries.specs.Entries.{count_of, number_at}
use Rattle.file_contents.specs.File.{Entry, entry_at, entries_from, entries_of}
use Rattle.file_laws.specs.Valid.{Each, Different}

module _ (s : List ℕ) where
  pub entries_length : (i k : ℕ) → length (entries_from s i k) ≡ k
  unfolding entries_from
  entries_length i zero = refl
  entries_length i (suc k) = ap suc (entries_length (suc i) k)

  pub length_entries : length (entries_of s) ≡ count_of s
  unfolding entries_of
  length_entries = entries_length 0 (count_of s)

  entries_at : (i k j : ℕ) (z : Entry) → j < k → get_or (entries_from s i k) j z ≡ entry_at s (i + j)
  unfolding entries_from
  entries_at i zero j z h = absurd (omega arith)
  entries_at i (suc k) zero z h = ap (entry_at s) (sym (add-zero i))
  entries_at i (suc k) (suc j) z h = let turn : suc i + j ≡ i + suc j = omega arith in entries_at (suc i) k j z (omega arith) ∙ ap (entry_at s) turn

  pub entry_of : (i : ℕ) (z : Entry) → i < count_of s → get_or (entries_of s) i z ≡ entry_at s i
  unfolding entries_of
  entry_of i z h = entries_at 0 (count_of s) i z h ∙ ap (entry_at s) (zero-add i)

  -- what holds of each entry by its place, and by its list
  module _ (P : Entry → Type 0) where
    pub each_from : (i k : ℕ) → ((j : ℕ) → i ≤ j → j < i + k → P (entry_at s j)) → Each P (entries_from s i k)
    unfolding entries_from
    each_from i zero f = tt
    each_from i (suc k) f = (f i (omega arith) (omega arith), each_from (suc i) k (λ j h l. f j (omega arith) (omega arith)))

    pub each_at : (i k : ℕ) → Each P (entries_from s i k) → (j : ℕ) → i ≤ j → j < i + k → P (entry_at s j)
    unfolding entries_from
    each_at i zero f j h l = absurd (omega arith)
    each_at i (suc k) f j h l =
        ⊎_elim (λ e. rw (← e) f.0) (λ g. each_at (suc i) k f.1 j g (omega arith)) (eq-or-lt_of_le h)

  -- and so for two entries of different numbers
  abbrev Apart : ℕ → ℕ → Type 0
  Apart j k = number_at s j ≡ number_at s k → ⊥

  pub different_from : (i k : ℕ) → ((a b : ℕ) → i ≤ a → a < b → b < i + k → Apart a b) → Different (entries_from s i k)
  unfolding entries_from entry_at
  different_from i zero f = tt
  different_from i (suc k) f = (
    each_from (λ d. number_at s i ≡ d.number → ⊥) (suc i) k (λ j h l. f i j (omega arith) (omega arith) (omega arith)),
    different_from (suc i) k (λ a b h g l. f a b (omega arith) g (omega arith)),
  )

  pub different_at : (i k : ℕ) → Different (entries_from s i k) → (a b : ℕ) → i ≤ a → a < b → b < i + k → Apart a b
  unfolding entries_from entry_at
  different_at i zero f a b h g l = absurd (omega arith)
  different_at i (suc k) f a b h g l =
      ⊎_elim
      (λ e. rw (← e) (each_at (λ d. number_at s i ≡ d.number → ⊥) (suc i) k f.0 b (omega arith) (omega arith)))
      (λ q. different_at (suc i) k f.1 a b q g (omega arith))
      (eq-or-lt_of_le h)
