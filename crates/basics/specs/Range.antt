-- Ranges: "m is 1 to 16".
use Rattle.std.specs.Prelude.{Bool, ◌&&◌, ℕ, leb}

-- whether x is low to high
unfoldable pub inside : ℕ → ℕ → ℕ → Bool
inside low x high = leb low x && leb x high
