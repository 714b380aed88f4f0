-- The check of a list of rows.
use Rattle.std.specs.Prelude.{List, length, get_or}
use Rattle.table_row.specs.declared.Row.{Row}
use Rattle.table.specs.declared.Beside.{Beside}
use Rattle.table_row.specs.Row.{no_row}
use Rattle.table.specs.Check.{Numbers, check_rows}

-- "A caller may also lend its rows as a list of records, which are checked as they stand, with m and x given beside them.";
-- "a list of 0 or more than 32 rows gets refusal 3"
unfoldable pub check_list : Beside → List Row → Numbers
check_list a l = check_rows a (length l) (λ i. get_or l i no_row)
