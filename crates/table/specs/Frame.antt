-- "The frame H is the least common multiple of the periods, at most 4,096."
use Rattle.std.specs.Prelude.{ℕ, zero, suc, ltb}
use Rattle.table_row.specs.Limits.{most_slots}
use Rattle.table_row.specs.Divisor.{multiple}
use Rattle.basics.specs.Least.{least}

-- the multiple of the first n periods
unfoldable pub frame_of : (ℕ → ℕ) → ℕ → ℕ
frame_of T zero = 1
frame_of T (suc n) = multiple (frame_of T n) (T n)

-- "the first whose period takes the multiple of the rows so far over it", and n where none of the first n does
unfoldable pub over_at : (ℕ → ℕ) → ℕ → ℕ
over_at T n = least (λ i. ltb most_slots (frame_of T (suc i))) n
