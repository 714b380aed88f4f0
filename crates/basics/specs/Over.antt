-- A list whose places from a to b are given by a rule, and whose other places are as they were: how loops speak of it.
use Rattle.std.specs.Prelude.{◌≡◌, List, ℕ, ◌≤◌, ◌<◌, length, get_or}

pub record Over (f : ℕ → ℕ) (a b : ℕ) (old new : List ℕ) : Type 0 where
  pub len : length new ≡ length old
  pub low : (s : ℕ) → s < a → get_or new s 0 ≡ get_or old s 0
  pub mid : (s : ℕ) → a ≤ s → s < b → get_or new s 0 ≡ f s
  pub high : (s : ℕ) → b ≤ s → get_or new s 0 ≡ get_or old s 0

-- a list whose first h places are those of a rule
pub record Holds (f : ℕ → ℕ) (h : ℕ) (l : List ℕ) : Type 0 where
  pub room : h ≤ length l
  pub at : (s : ℕ) → s < h → get_or l s 0 ≡ f s

-- every place as it was
pub record Same (old new : List ℕ) : Type 0 where
  pub at : (s : ℕ) → get_or new s 0 ≡ get_or old s 0
