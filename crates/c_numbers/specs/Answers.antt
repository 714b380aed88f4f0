-- The numbers of each answer, in order: "A refusal gives its number, the entry and the row", and then what the function gives.
use Rattle.std.specs.Prelude.{◌≡◌, ℕ, List, [], ◌∷◌, Result, Ok, Err}
use Rattle.refusal.specs.declared.Refusal.{Refusal}
use Rattle.refusal.specs.Refusal.{Numbered, none}
use Rattle.refusal.specs.Told.{told}
use Rattle.table.specs.Check.{Numbers as CheckNumbers}
use Rattle.judge_scan.specs.declared.Line.{Line}
use Rattle.judge.specs.Judge.{Numbers as JudgeNumbers}
use Rattle.file_check.specs.Check.{Numbers as FileNumbers}
use Rattle.file_put.specs.Put.{Written}
use Rattle.c_numbers.specs.Lent.{threes}
use Rattle.c_numbers.specs.declared.answers.Answer.{Answer}

abbrev pub refusal_answer : Numbered → List ℕ
refusal_answer r = r.no ∷ r.entry ∷ r.row ∷ []

-- a refusal, and one number more
abbrev pub refusal_and : Numbered → ℕ → List ℕ
refusal_and r n = r.no ∷ r.entry ∷ r.row ∷ n ∷ []

-- the numbers of an answer that gives one number, or a refusal with 0 beside it
abbrev pub Answered : {T : Type 0} → (T → ℕ → Type 0) → Result T Refusal → List ℕ → Type 0
Answered becomes (Ok x) answer = (n : ℕ) × becomes x n × (answer ≡ refusal_and none n)
Answered becomes (Err r) answer = answer ≡ refusal_and (told r) 0

-- "A check that accepts gives H"
abbrev pub check_answer : CheckNumbers → List ℕ
check_answer n = refusal_and n.refusal n.frame

-- the same as a record
abbrev pub refusal_first : Numbered → ℕ → Answer
refusal_first r n = record { no = r.no; entry = r.entry; row = r.row; frame = n }

abbrev pub answer_of : CheckNumbers → Answer
answer_of n = refusal_first n.refusal n.frame

-- "It gives the least such t, that work, that supply, and H."
abbrev pub judge_answer : JudgeNumbers → List ℕ
judge_answer n =
    n.refusal.no ∷ n.refusal.entry ∷ n.refusal.row ∷ n.t ∷ n.work ∷ n.supply ∷ n.frame ∷ []

-- a line of the square
abbrev pub line_numbers : Line → List ℕ
line_numbers a = a.t ∷ a.work ∷ a.supply ∷ []

-- "an eight by three square of numbers, one line a depth from 1 to 8: t, work and supply"
abbrev pub lines_answer : List Line → List ℕ
lines_answer l = threes (λ a. a.t) (λ a. a.work) (λ a. a.supply) l

-- "the file's check gives its number of entries"
abbrev pub file_answer : FileNumbers → List ℕ
file_answer n = refusal_and n.refusal n.entries

-- "it gives the length"
abbrev pub put_answer : Written → List ℕ
put_answer w = refusal_and w.refusal w.length
