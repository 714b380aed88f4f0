-- All rows of a list are seen: what they come to is the list's check.
use mathlib.Core.Path.{◌≡◌}
use mathlib.Core.List.{List}
use lib.ListN.{length, get_or}
use Rattle.table_row.specs.declared.Row.{Row}
use Rattle.table.specs.declared.Beside.{Beside}
use Rattle.table_row.specs.Row.{no_row}
use Rattle.table.specs.Seen.{SeenNumbers, finish_of}
use Rattle.table.proofs.SoFar.{SoFar, so_far_all}
use Rattle.table_list.specs.List.{check_list}

pub seen_all : (a : Beside) (l : List Row) (s : SeenNumbers) → SoFar a (λ i. get_or l i no_row) (length l) s → finish_of s ≡ check_list a l
unfolding check_list
seen_all a l s g = so_far_all (λ i. get_or l i no_row) a (length l) s g
