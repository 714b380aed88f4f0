-- The contract of the list's check determines its answer: two answers that meet it are equal.
use mathlib.Core.Path.{◌≡◌}
use mathlib.Core.List.{List}
use Prim.Native.Nat.{ℕ}
use lib.ListN.{length, get_or}
use Rattle.table_row.specs.declared.Row.{Row}
use Rattle.table.specs.declared.Beside.{Beside}
use Rattle.std.specs.Prelude.{Result}
use Rattle.refusal.specs.declared.Refusal.{Refusal}
use Rattle.table_row.specs.Row.{no_row}
use Rattle.table.specs.Check.{numbers}
use Rattle.table.proofs.Determined.{rows_determined}
use Rattle.table_list.specs.List.{check_list}

pub list_determined : (a : Beside) (l : List Row) (r s : Result ℕ Refusal) → numbers r ≡ check_list a l → numbers s ≡ check_list a l → r ≡ s
unfolding check_list
list_determined a l = rows_determined a (length l) (λ i. get_or l i no_row)
