-- The rows before i as they are to be, the others as they were.
use mathlib.Core.Path.{◌≡◌, ◌∙◌}
use mathlib.Core.Bool.{Bool, cond}
use Prim.Native.Nat.{ℕ, ◌+◌, ◌<◌}
use native.Mathlib.Omega.{arith}
use lib.Dec.{ltb}
use Rattle.std.proofs.lemmas.Bool.Decides.{nat_tests}
use Rattle.sets.specs.Word.{word, put}
use Rattle.sets.proofs.Words.{with_row, word_ext, put_word}

unfoldable pub mix : ℕ → (ℕ → Bool) → (ℕ → Bool) → ℕ → Bool
mix i new old k = cond (ltb k i) (new k) (old k)

pub mix_none : (new old : ℕ → Bool) (k : ℕ) → mix 0 new old k ≡ old k
unfolding mix
mix_none new old k = grind (arith, nat_tests)

pub mix_all : (n : ℕ) (new old : ℕ → Bool) (k : ℕ) → k < n → mix n new old k ≡ new k
unfolding mix
mix_all n new old k l = grind (arith, nat_tests)

pub mix_here : (i : ℕ) (new old : ℕ → Bool) → mix i new old i ≡ old i
unfolding mix
mix_here i new old = grind (arith, nat_tests)

mix_next : (i : ℕ) (new old : ℕ → Bool) (k : ℕ) → with_row i (new i) (mix i new old) k ≡ mix (i + 1) new old k
unfolding mix
mix_next i new old k = grind (arith, nat_tests)

-- one row more in a word
pub mix_put : (n i : ℕ) (new old : ℕ → Bool) → i < n → put i (new i) (word n (mix i new old)) ≡ word n (mix (i + 1) new old)
mix_put n i new old h = put_word n i (new i) (mix i new old) h ∙ word_ext n (λ k l. mix_next i new old k)
