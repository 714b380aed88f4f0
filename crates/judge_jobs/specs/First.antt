-- For the passes alone: the first c slots from a release on that pass a test.
use Rattle.std.specs.Prelude.{Bool, ◌&&◌, List, ℕ, ◌+◌, ◌-◌, ltb, get_or}
use Rattle.basics.specs.Sum.{sum, bit}
use Rattle.sets.specs.Word.{member}

-- whether row i is in the set of slot s, of a list of sets
abbrev pub in_slot : ℕ → List ℕ → ℕ → Bool
in_slot i l s = member i (get_or l s 0)

-- how many of the o slots from b pass
unfoldable pub tally : (ℕ → Bool) → ℕ → ℕ → ℕ
tally p b o = sum o (λ k. bit (p (b + k)))

-- slot s passes, as one of the first c from b on
unfoldable pub first : ℕ → (ℕ → Bool) → ℕ → ℕ → Bool
first c p b s = p s && ltb (tally p b (s - b)) c
