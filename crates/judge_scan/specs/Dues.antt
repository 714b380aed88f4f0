-- For the passes alone: what falls due in a slot, the work of the jobs whose windows end with it.
use Rattle.std.specs.Prelude.{List, ℕ, ◌+◌, ◌-◌, ◌*◌, ◌%◌, eqb, get_or}
use Rattle.basics.specs.Sum.{sum, bit}
use Rattle.basics.specs.Over.{Over}
use Rattle.table_row.specs.declared.Row.{Row}
use Rattle.table.specs.declared.Table.{Table}
use Rattle.table_row.specs.Limits.{most_rows, most_slots}
use Rattle.table.specs.Rows.{row_at}

-- "its window is the D slots from there": of a row, what falls due in slot s
abbrev pub falling : Row → ℕ → ℕ
falling row s = row.execution * bit (eqb (s % row.period) (row.deadline - 1))

-- and of the first n rows of a table
abbrev pub falling_in : Table → ℕ → ℕ → ℕ
falling_in t n s = sum n (λ i. falling (row_at t i) s)

-- no more than this falls due in a slot: no execution time is longer than the longest period
abbrev pub most_due : ℕ
most_due = most_rows * most_slots

-- the first h places of a list grow by what falls due
abbrev pub Falls : (ℕ → ℕ) → ℕ → List ℕ → List ℕ → Type 0
Falls f h old new = Over (λ s. get_or old s 0 + f s) 0 h old new
