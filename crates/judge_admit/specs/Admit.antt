-- When a table and two lent lists are refused: "It refuses as the judge does, 8 included."
use Rattle.std.specs.Prelude.{Result, Ok, Err, cond, ◌||◌, ℕ, ◌≤◌, ltb, eqb}
use Rattle.refusal.specs.declared.Refusal.{Refusal}
use Rattle.refusal.specs.Told.{told}
use Rattle.table.specs.declared.Table.{Table}
use Rattle.table.specs.declared.framed.Framed.{Framed}
use Rattle.table.specs.Check.{Numbers, framed, refused_by, refused, check_of}
use Rattle.table.specs.Meaning.{Accepted}

-- 8: "either word list shorter than H", for lists of a and b words
abbrev pub long_enough : ℕ → ℕ → Numbers → Numbers
long_enough a b c = cond (ltb a c.frame || ltb b c.frame) (refused 8 0) c

-- "Order for a table: 1, 2, 3, then rows upward, in each 4, 5, 6; then 7; then 8": the refusal, or none and the frame
unfoldable pub admit_of : Table → ℕ → ℕ → Numbers
admit_of t a b = let c = check_of t in cond (eqb c.refusal.no 0) (long_enough a b c) c

-- the numbers of the code's answer: the frame, or the refusal
abbrev pub admission : Result Framed Refusal → Numbers
admission (Ok a) = framed a.frame
admission (Err r) = refused_by (told r)

-- an accepted table with its frame h, in lists of a and b words that are long enough
pub record Admitted (t : Table) (a b h : ℕ) : Type 0 where
  pub accepted : Accepted t h
  pub map_room : h ≤ a
  pub pins_room : h ≤ b
