-- For the first map alone: T and D of a row, and the windows of a list of them.
use Rattle.std.specs.Prelude.{◌≡◌, Bool, List, ℕ, ◌%◌, ◌≤◌, ◌<◌, ltb, length, get_or}
use Rattle.table_row.specs.declared.Row.{Row}
use Rattle.table_row.specs.Row.{no_row}
use Rattle.table_row.specs.Limits.{most_rows}
use Rattle.table.specs.declared.Table.{Table}
use Rattle.table.specs.Rows.{row_at}
use Rattle.judge_first.specs.declared.Span.{Span}

abbrev pub span_by : Row → Span
span_by r = record { period = r.period; deadline = r.deadline }

abbrev pub no_span : Span
no_span = span_by no_row

-- the spans of a table's first k rows, and zeros past them
pub record SpansOf (t : Table) (k : ℕ) (spans : List Span) : Type 0 where
  pub len : length spans ≡ most_rows
  pub each : (i : ℕ) → i < k → get_or spans i no_span ≡ span_by (row_at t i)
  pub past : (i : ℕ) → k ≤ i → get_or spans i no_span ≡ no_span

-- "a row is available in t when t mod T is less than D"
abbrev pub in_windows : List Span → ℕ → ℕ → Bool
in_windows spans s i = ltb (s % (get_or spans i no_span).period) (get_or spans i no_span).deadline
