-- "The check of such a list answers as the check of a table of those rows does; a list of 0 or more than 32 rows gets refusal 3."
use mathlib.Core.Path.{◌≡◌, sym}
use mathlib.Core.Bool.{true, false}
use mathlib.Core.List.{List}
use Prim.Native.Nat.{◌≤◌}
use lib.ListN.{length, get_or, get_or-append}
use Rattle.basics.specs.Range.{inside}
use Rattle.table_row.specs.declared.Row.{Row}
use Rattle.table.specs.declared.Beside.{Beside}
use Rattle.table_row.specs.Limits.{most_processors, most_depths, most_rows}
use Rattle.table_row.specs.Row.{no_row}
use Rattle.table.specs.Rows.{row_at, table_of}
use Rattle.table.specs.Check.{refused, check_of}
use Rattle.table.proofs.Past.{check_rows_same}
use Rattle.table.proofs.Steps.{rows_count}
use Rattle.table_list.specs.List.{check_list}

module _ (a : Beside) (l : List Row) where
  pub as_table : length l ≤ most_rows → check_list a l ≡ check_of (table_of a l)
  unfolding check_list check_of
  as_table h = check_rows_same (length l) (λ i. get_or l i no_row) (row_at (table_of a l)) (λ i g. sym (get_or-append l _ no_row i g)) a

  pub size_is_3 : inside 1 a.processors most_processors ≡ true → inside 1 a.depth most_depths ≡ true
      → inside 1 (length l) most_rows ≡ false → check_list a l ≡ refused 3 0
  unfolding check_list
  size_is_3 p q r = sym (rows_count a (length l) (λ i. get_or l i no_row) p q r)
