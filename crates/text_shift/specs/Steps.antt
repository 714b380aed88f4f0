-- For the proofs alone: the steps by which the text of a file is written.
use Rattle.std.specs.Prelude.{◌≡◌, List, ℕ, ◌*◌}
use Rattle.text_decimal.specs.declared.Output.{Output}
use Rattle.text_lines.specs.Line.{longest}
use Rattle.text_lines.specs.Told.{Told}
use Rattle.text_shift.specs.Text.{entry_line, lines_to}
use Rattle.text_shift.specs.Lists.{entry_lists, lists_to}
use Rattle.text_shift.specs.Shift.{lists}

-- entry i, with its line in an output
pub record Entered (file : List ℕ) (i : ℕ) (map pins : List ℕ) (o : Output) (map' pins' : List ℕ) (o' : Output) : Type 0 where
  pub told : Told longest o (entry_line file i) o'
  pub lists_are : lists map' pins' ≡ entry_lists file i (lists map pins)

-- the first n entries
pub record Through (file : List ℕ) (n : ℕ) (map pins : List ℕ) (o : Output) (map' pins' : List ℕ) (o' : Output) : Type 0 where
  pub told : Told (longest * n) o (lines_to file n) o'
  pub lists_are : lists map' pins' ≡ lists_to file n (lists map pins)
