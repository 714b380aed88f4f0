-- The number of each refusal, and the numbers of what the code answers.
use Rattle.std.specs.Prelude.{ℕ, Result, Ok, Err}
use Rattle.refusal.specs.declared.Refusal.{Refusal}
use Rattle.refusal.specs.declared.Rule.{Rule}
use Rattle.refusal.specs.declared.Rule.TheVariants.{
  Processors,
  Depth,
  Count,
  Period,
  Deadline,
  Execution,
  Frame,
  Lists,
  Bytes,
  Form,
  Entries,
  Kind,
  Place,
  Sum,
  Body,
  Twice,
  NoTable,
  NoRow,
  Output,
}
use Rattle.refusal.specs.Refusal.{Numbered, none}

-- "Refusals by number"
abbrev pub number : Rule → ℕ
number Processors = 1
number Depth = 2
number Count = 3
number Period = 4
number Deadline = 5
number Execution = 6
number Frame = 7
number Lists = 8
number Bytes = 9
number Form = 10
number Entries = 11
number Kind = 12
number Place = 13
number Sum = 14
number Body = 15
number Twice = 16
number NoTable = 17
number NoRow = 18
number Output = 19

abbrev pub told : Refusal → Numbered
told r = record { no = number r.rule; entry = r.entry; row = r.row }

-- the refusal in an answer, none where it is Ok
abbrev pub told_in : {A : Type 0} → Result A Refusal → Numbered
told_in (Ok x) = none
told_in (Err r) = told r

-- the number of the rule in an answer, 0 where it is Ok
abbrev pub number_in : {A : Type 0} → Result A Rule → ℕ
number_in (Ok x) = 0
number_in (Err k) = number k
