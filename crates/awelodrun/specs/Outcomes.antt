-- What the C functions leave in all that they are lent to write.
use Rattle.std.specs.Prelude.{◌≡◌, List, ℕ, Result, Ok, Err, length}
use Rattle.refusal.specs.declared.Refusal.{Refusal}
use Rattle.refusal.specs.Refusal.{Numbered}
use Rattle.table.specs.declared.Table.{Table}
use Rattle.judge.specs.Judge.{judge_of}
use Rattle.judge.specs.After.{map_after, pins_after}
use Rattle.judge_ladder.specs.Ladder.{ladder_of}
use Rattle.table_edit.specs.Edit.{Edited}
use Rattle.file_check.specs.Find.{Found}
use Rattle.file_put.specs.Put.{put_of, put_out}
use Rattle.c_numbers.specs.Lent.{numbers_of}
use Rattle.c_numbers.specs.Answers.{refusal_answer, judge_answer, lines_answer, put_answer}
use Rattle.table_row.specs.Limits.{most_depths}

-- the judge: its numbers, and both lists as it leaves them
pub record Judges (t : Table) (map pins map' pins' answer : List ℕ) : Type 0 where
  pub answer_is : answer ≡ judge_answer (judge_of t (length map) (length pins))
  pub map_is : map' ≡ map_after t t.depth map pins
  pub pins_is : pins' ≡ pins_after t t.depth map pins

-- the ladder: its square and refusal, and both lists at depth 8
pub record Ladders (t : Table) (map pins map' pins' square answer : List ℕ) : Type 0 where
  pub square_is : square ≡ lines_answer (ladder_of t (length map) (length pins)).lines
  pub answer_is : answer ≡ refusal_answer (ladder_of t (length map) (length pins)).refusal
  pub map_is : map' ≡ map_after t most_depths map pins
  pub pins_is : pins' ≡ pins_after t most_depths map pins

-- a table and a refusal
pub record Gives (t : Table) (r : Numbered) (table answer : List ℕ) : Type 0 where
  pub table_is : table ≡ numbers_of t
  pub answer_is : answer ≡ refusal_answer r

-- the table that is given, or the other where it is refused
abbrev pub given_or : Result Table Refusal → Table → Table
given_or (Ok t) other = t
given_or (Err r) other = other

-- add and remove: the table that comes back, and the refusal
abbrev pub Edits : Edited → List ℕ → List ℕ → Type 0
Edits r = Gives r.table r.refusal

-- find: the table that has the number, and the refusal
abbrev pub Finds : Found → List ℕ → List ℕ → Type 0
Finds r = Gives r.table r.refusal

-- put: its numbers, and the output as it leaves it
pub record Writes (file : List ℕ) (number : ℕ) (t : Table) (out out' answer : List ℕ) : Type 0 where
  pub answer_is : answer ≡ put_answer (put_of file number t (length out))
  pub out_after : out' ≡ put_out file number t out
