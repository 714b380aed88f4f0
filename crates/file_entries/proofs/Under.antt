-- How the code comes to the kind under a number, and what that kind tells.
use mathlib.Core.Path.{◌≡◌, ap, ◌∙◌}
use mathlib.Core.Bool.{Bool, true, false}
use Prim.Native.Nat.{ℕ, ◌≤◌, ◌<◌}
use mathlib.Core.List.{List}
use Rattle.std.proofs.lemmas.Bool.Decides.{nat_tests}
use borrow.Author.Tests.{lt-ltb, le-ltb}
use Rattle.file_kinds.specs.declared.Kind.{Kind}
use Rattle.std.proofs.Common.{Option, Some, None, arith}
use Rattle.file_kinds.specs.Kinds.{kind_of}
use Rattle.file_entries.specs.Entries.{count_of, kind_at, sought, seek_of, kind_under}
use Rattle.file_entries.proofs.Seeks.{sought_some, sought_none}

module _ (s : List ℕ) (number : ℕ) where
  pub under_none : count_of s ≤ seek_of s number → None ≡ kind_under s number
  unfolding kind_under
  under_none h = rw (le-ltb _ _ h)

  pub under_entry : seek_of s number < count_of s → kind_of (kind_at s (seek_of s number)) ≡ kind_under s number
  unfolding kind_under
  under_entry h = rw (lt-ltb _ _ h)

  -- a kind that no entry stands for is not this one
  pub under_is : (p : Option Kind → Bool) → p None ≡ false → p (kind_under s number) ≡ true
      → (seek_of s number < count_of s) × (p (kind_of (kind_at s (seek_of s number))) ≡ true)
  unfolding kind_under
  under_is p n h = grind (arith, nat_tests)

  -- by the answer to the search
  pub under_found : (i : ℕ) → Some i ≡ sought (seek_of s number) (count_of s) → kind_of (kind_at s i) ≡ kind_under s number
  under_found i e =
      let h = sought_some _ _ i e in
      ap (λ (k : ℕ). kind_of (kind_at s k)) h.0 ∙ under_entry h.1

  pub under_missing : None ≡ sought (seek_of s number) (count_of s) → None ≡ kind_under s number
  under_missing e = under_none (sought_none _ _ e)
