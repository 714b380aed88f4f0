-- The text of a file.
use Rattle.std.specs.Prelude.{cond, List, [], ◌++◌, ℕ, zero, suc, eqb}
use Rattle.basics.specs.When.{when}
use Rattle.table_row.specs.Limits.{most_slots}
use Rattle.file_kinds.specs.Kinds.{kind_of, is_table}
use Rattle.file_entries.specs.Entries.{count_of, kind_at, number_at}
use Rattle.file_bodies.specs.Body.{table_at}
use Rattle.file_check.specs.Check.{file_refusal}
use Rattle.judge.specs.Judge.{Numbers, judge_of}
use Rattle.text_lines.specs.Line.{table_line, refused_line}

-- the verdict on the table of entry i: "It makes its two lists as 4,096 zero words each."
unfoldable pub verdict_at : List ℕ → ℕ → Numbers
verdict_at s i = judge_of (table_at s i) most_slots most_slots

-- the line of entry i, which a note has none of
unfoldable pub entry_line : List ℕ → ℕ → List ℕ
entry_line s i = when (is_table (kind_of (kind_at s i))) (table_line (number_at s i) (verdict_at s i)) []

-- "one line for each table in contents order, skipping notes", of the first n entries
unfoldable pub lines_to : List ℕ → ℕ → List ℕ
lines_to s zero = []
lines_to s (suc i) = lines_to s i ++ entry_line s i

-- "It reads a task file from standard input and writes one line for each table"; "for a refused file, the single line". "There is no header line."
unfoldable pub text_of : List ℕ → List ℕ
text_of s = cond (eqb (file_refusal s).no 0) (lines_to s (count_of s)) (refused_line (file_refusal s))
