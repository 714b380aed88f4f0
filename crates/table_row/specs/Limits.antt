-- The limits of a table. src/limits.rt has the same numbers for the code; the proofs hold them together.
use Rattle.std.specs.Prelude.{ℕ}
use Rattle.sets.specs.Word.{width}

-- "m is 1 to 16, x is 1 to 8"
abbrev pub most_processors : ℕ
most_processors = 16

abbrev pub most_depths : ℕ
most_depths = 8

-- "room for 32 rows": as many as a set can have
abbrev pub most_rows : ℕ
most_rows = width

-- "The frame H is the least common multiple of the periods, at most 4,096"; so no period is longer
abbrev pub most_slots : ℕ
most_slots = 4096
