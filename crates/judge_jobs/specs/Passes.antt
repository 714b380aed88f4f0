-- For the passes alone: what a job and a row do to the words of the pins and of the map. The pins begin with the sets that have few enough rows.
use Rattle.std.specs.Prelude.{◌≡◌, Bool, true, false, cond, List, ℕ, ◌+◌, ◌*◌, ◌/◌, ◌%◌, ◌≤◌, ◌<◌, leb, ltb, length, get_or}
use Rattle.sets.specs.Word.{put}
use Rattle.basics.specs.Over.{Over, Same}
use Rattle.table_row.specs.declared.Row.{Row}
use Rattle.judge_jobs.specs.First.{in_slot, tally, first}

-- the sets of a list, with row i in that of slot s if f says so and not in it otherwise
abbrev pub putting : ℕ → (ℕ → Bool) → List ℕ → ℕ → ℕ
putting i f l s = put i (f s) (get_or l s 0)

-- a job with execution c and deadline d, released in slot b: the map keeps the first c slots of p where there are as many, and else what it had
abbrev pub job_map : ℕ → ℕ → (ℕ → Bool) → (ℕ → Bool) → ℕ → ℕ → Bool
job_map c d p a b s = cond (leb c (tally p b d)) (first c p b s) (a s)

-- a row: in each window the pins keep the first C slots
unfoldable pub row_pin : Row → (ℕ → Bool) → ℕ → Bool
row_pin row p s =
    cond (ltb (s % row.period) row.deadline) (first row.execution p (s / row.period * row.period) s) (p s)

-- and the map has what each job leaves of it
unfoldable pub row_map : Row → (ℕ → Bool) → (ℕ → Bool) → ℕ → Bool
row_map row p a s =
    cond (ltb (s % row.period) row.deadline) (job_map row.execution row.deadline p a (s / row.period * row.period) s) (a s)

-- a slot from a to b whose set is another
pub record Moved (a b : ℕ) (old new : List ℕ) : Type 0 where
  pub slot : ℕ
  pub from : a ≤ slot
  pub to : slot < b
  pub other : get_or new slot 0 ≡ get_or old slot 0 → ⊥

-- whether a list changed
pub record Noticed (a b : ℕ) (old new : List ℕ) (changed : Bool) : Type 0 where
  pub still : changed ≡ false → Same old new
  pub moved : changed ≡ true → Moved a b old new

-- both lists from a to b, and whether the map changed
pub record Both (f g : ℕ → ℕ) (a b : ℕ) (pin pin' map map' : List ℕ) (changed : Bool) : Type 0 where
  pub pins : Over f a b pin pin'
  pub maps : Over g a b map map'
  pub noticed : Noticed a b map map' changed

-- after a job of row i with execution c and deadline d, released in slot b
abbrev pub JobDone : ℕ → ℕ → ℕ → ℕ → List ℕ → List ℕ → List ℕ → List ℕ → Bool → Type 0
JobDone i c d b pin pin' map map' changed =
    Both (putting i (first c (in_slot i pin) b) pin) (putting i (job_map c d (in_slot i pin) (in_slot i map) b) map)
    b (b + d) pin pin' map map' changed

-- the same of a job in the lists of its window alone
abbrev pub WindowDone : ℕ → ℕ → List ℕ → List ℕ → List ℕ → List ℕ → Bool → Type 0
WindowDone i c pin pin' map map' changed =
    Both (putting i (first c (in_slot i pin) 0) pin) (putting i (job_map c (length pin) (in_slot i pin) (in_slot i map) 0) map)
    0 (length pin) pin pin' map map' changed

-- after the jobs of row i that are released before slot h
abbrev pub RowDone : ℕ → Row → ℕ → List ℕ → List ℕ → List ℕ → List ℕ → Bool → Type 0
RowDone i row h pin pin' map map' changed =
    Both (putting i (row_pin row (in_slot i pin)) pin) (putting i (row_map row (in_slot i pin) (in_slot i map)) map)
    0 h pin pin' map map' changed
