-- "Put writes to a lent output the file with the table of that number replaced in its place, or added as the last entry"
use Rattle.std.specs.Prelude.{◌≡◌, Result, Ok, Err, cond, ℕ, List, ◌++◌, length, drop, eqb}
use Rattle.refusal.specs.declared.Refusal.{Refusal}
use Rattle.refusal.specs.Refusal.{Numbered, none}
use Rattle.refusal.specs.Told.{told}
use Rattle.table.specs.declared.Table.{Table}
use Rattle.file_new.specs.New.{new_file, put_refusal}

-- the numbers of an answer: "it gives the length"
pub record Written : Type 0 where
  pub refusal : Numbered
  pub length : ℕ

-- this paper's numbers for each case of the answer
abbrev pub written : Result ℕ Refusal → Written
written (Ok n) = record { refusal = none; length = n }
written (Err r) = record { refusal = told r; length = 0 }

-- "it gives the length"; "All other numbers of a refused answer are 0: [..] put's length"
unfoldable pub put_of : List ℕ → ℕ → Table → ℕ → Written
put_of s number t room = record {
  refusal = put_refusal s number t room;
  length = cond (eqb (put_refusal s number t room).no 0) (length (new_file s number t)) 0;
}

-- "output bytes past it are unchanged"; "Every refusal leaves all lent memory untouched"
unfoldable pub put_out : List ℕ → ℕ → Table → List ℕ → List ℕ
put_out s number t out =
    cond (eqb (put_refusal s number t (length out)).no 0) (new_file s number t ++ drop (length (new_file s number t)) out) out

-- what put promises: its answer, and the output at exit
pub record Puts (s : List ℕ) (number : ℕ) (t : Table) (before after : List ℕ) (r : Written) : Type 0 where
  pub answer : r ≡ put_of s number t (length before)
  pub output : after ≡ put_out s number t before
