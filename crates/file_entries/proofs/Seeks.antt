-- How a search of the entries comes to its answer, and what the answer tells.
use Rattle.std.proofs.Common.{◌≡◌, ℕ, ◌≤◌, ◌<◌, true, false, eqb, List, Option, Some, None, MatchOption, sym, arith}
use Rattle.std.proofs.lemmas.Bool.Decides.{nat_tests}
use borrow.Author.Tests.{lt-ltb, le-ltb}
use Rattle.basics.specs.Least.{least}
use Rattle.basics.proofs.Least.{least_found, least_none}
use Rattle.file_entries.specs.Entries.{number_at, sought, seek_in}

module _ (i n : ℕ) where
  pub sought_here : i < n → sought i n ≡ Some i
  unfolding sought
  sought_here h = rw (lt-ltb i n h)

  pub sought_past : n ≤ i → sought i n ≡ None
  unfolding sought
  sought_past h = rw (le-ltb i n h)

  -- what the answer tells
  pub sought_some : (k : ℕ) → Some k ≡ sought i n → (k ≡ i) × (i < n)
  unfolding sought
  sought_some k = grind (arith, nat_tests)

  pub sought_none : None ≡ sought i n → n ≤ i
  unfolding sought
  sought_none = grind (arith, nat_tests)

module _ (s : List ℕ) (number n : ℕ) where
  -- the first that passes, as a search of the numbers below n gives it
  pub seek_first : (r : Option ℕ) → MatchOption r ((k : ℕ) → 0 ≤ k → k < n → eqb (number_at s k) number ≡ false)
      (λ i. (0 ≤ i) × (i < n) × (eqb (number_at s i) number ≡ true) × ((k : ℕ) → 0 ≤ k → k < i → eqb (number_at s k) number ≡ false))
      → r ≡ sought (seek_in s number n) n
  unfolding seek_in
  seek_first None f =
      let e = least_none (λ k. eqb (number_at s k) number) n (λ k h. f k (omega arith) h) in
      sym (sought_past (least (λ k. eqb (number_at s k) number) n) n (omega arith))
  seek_first (Some i) f =
      let e = least_found (λ k. eqb (number_at s k) number) n i (λ k h. f.3 k (omega arith) h) f.2 f.1 in
      sym (rw (← e) (sought_here i n f.1))
