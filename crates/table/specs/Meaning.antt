-- The model that a table makes, and what an accepted table is.
use Rattle.std.specs.Prelude.{◌≡◌, ℕ, ◌≤◌, ◌<◌}
use Rattle.model.specs.Model.{Model}
use Rattle.table.specs.declared.Table.{Table}
use Rattle.table_row.specs.Limits.{most_processors, most_depths, most_rows, most_slots}
use Rattle.table.specs.Frame.{frame_of}
use Rattle.table.specs.Rows.{row_at}

-- "Tables of sequential tasks on identical processors": each row counts for one, and "All m processors serve every slot"
abbrev pub model_of : Table → Model
model_of t = record {
  rows = t.count;
  period = λ i. (row_at t i).period;
  execution = λ i. (row_at t i).execution;
  deadline = λ i. (row_at t i).deadline;
  weight = λ i. 1;
  capacity = λ s. t.processors;
}

-- every field in its range, and h the frame
pub record Accepted (t : Table) (h : ℕ) : Type 0 where
  pub m_low : 1 ≤ t.processors
  pub m_high : t.processors ≤ most_processors
  pub x_low : 1 ≤ t.depth
  pub x_high : t.depth ≤ most_depths
  pub count_low : 1 ≤ t.count
  pub count_high : t.count ≤ most_rows
  pub period_high : (i : ℕ) → i < t.count → (row_at t i).period ≤ most_slots
  pub apart : (i : ℕ) → i < t.count → (row_at t i).deadline ≤ (row_at t i).period
  pub room : (i : ℕ) → i < t.count → (row_at t i).execution ≤ (row_at t i).deadline
  pub some : (i : ℕ) → i < t.count → 1 ≤ (row_at t i).execution
  pub frame : h ≡ frame_of (λ i. (row_at t i).period) t.count
  pub frame_low : 1 ≤ h
  pub frame_high : h ≤ most_slots
