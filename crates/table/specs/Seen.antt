-- For the proofs alone: what one row more makes of the rows seen, and the answer that they come to.
use Rattle.std.specs.Prelude.{cond, ℕ, ◌+◌, leb, ltb, eqb}
use Rattle.table_row.specs.declared.Row.{Row}
use Rattle.table.specs.declared.Beside.{Beside}
use Rattle.table.specs.declared.Seen.{Seen}
use Rattle.refusal.specs.Refusal.{Numbered, in_row, none}
use Rattle.refusal.specs.Told.{told_in}
use Rattle.table_row.specs.Limits.{most_processors, most_depths, most_rows, most_slots}
use Rattle.table_row.specs.Divisor.{multiple}
use Rattle.table_row.specs.Row.{row_refusal}
use Rattle.table.specs.Check.{Numbers, framed, refused_by, refused}
use Rattle.basics.specs.Range.{inside}

-- the rows seen so far in numbers: the first that is refused by itself, with its refusal, none where there is none
pub record SeenNumbers : Type 0 where
  pub beside : Beside
  pub count : ℕ
  pub fault : Numbered
  pub frame : ℕ
  pub last : ℕ

abbrev pub seen : Seen → SeenNumbers
seen s = record { beside = s.beside; count = s.count; fault = told_in s.fault; frame = s.frame; last = s.last }

abbrev pub none_seen : Beside → SeenNumbers
none_seen a = record { beside = a; count = 0; fault = none; frame = 1; last = 0 }

-- one more than the most stands for all above it
unfoldable pub one_more : ℕ → ℕ
one_more n = cond (ltb n most_rows) (n + 1) (most_rows + 1)

-- a row that changes nothing but the count
abbrev pub counted : SeenNumbers → SeenNumbers
counted s = record { beside = s.beside; count = one_more s.count; fault = s.fault; frame = s.frame; last = s.last }

-- the first row that is refused by itself
abbrev pub faulted : SeenNumbers → Row → SeenNumbers
faulted s y = record { beside = s.beside; count = one_more s.count; fault = in_row (row_refusal y) s.count; frame = s.frame; last = s.last }

-- a row that the multiple takes in
abbrev pub taken : SeenNumbers → Row → SeenNumbers
taken s y = record { beside = s.beside; count = one_more s.count; fault = s.fault; frame = multiple s.frame y.period; last = s.count }

unfoldable pub step_of : SeenNumbers → Row → SeenNumbers
step_of s y =
    cond (eqb s.fault.no 0)
    (cond (eqb (row_refusal y) 0) (cond (inside 1 s.frame most_slots) (taken s y) (counted s)) (faulted s y))
    (counted s)

-- what the rows seen come to: 4, 5, 6, then 7
unfoldable pub seen_each : SeenNumbers → Numbers
seen_each s =
    cond (eqb s.fault.no 0) (cond (leb s.frame most_slots) (framed s.frame) (refused 7 s.last)) (refused_by s.fault)

-- 1, 2, 3, and then what the n rows come to
unfoldable pub ranges : Beside → ℕ → Numbers → Numbers
ranges a n each =
    cond (inside 1 a.processors most_processors)
    (cond (inside 1 a.depth most_depths) (cond (inside 1 n most_rows) each (refused 3 0)) (refused 2 0))
    (refused 1 0)

unfoldable pub finish_of : SeenNumbers → Numbers
finish_of s = ranges s.beside s.count (seen_each s)
