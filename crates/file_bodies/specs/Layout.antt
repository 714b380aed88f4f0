-- Where the parts of a table's body stand: "m, x, the row count and a zero byte, then T, C, D of each row, 2 bytes each." src/layout.rt has the same numbers for the code; the proofs hold them together.
use Rattle.std.specs.Prelude.{ℕ, ◌+◌, ◌*◌, List, get_or}
use Rattle.table_row.specs.Limits.{most_rows}

-- "m, x, the row count and a zero byte"
abbrev pub body_head : ℕ
body_head = 4

-- "T, C, D of each row, 2 bytes each"
abbrev pub field_length : ℕ
field_length = 2

abbrev pub row_length : ℕ
row_length = 6

-- where row i begins, and so where a body of i rows ends
abbrev pub row_place : ℕ → ℕ
row_place i = body_head + row_length * i

-- where field k of row i begins
abbrev pub field_place : ℕ → ℕ → ℕ
field_place i k = row_place i + field_length * k

-- the length of a body of n rows
abbrev pub body_length : ℕ → ℕ
body_length n = row_place n

-- and of the longest
abbrev pub most_body : ℕ
most_body = body_length most_rows

-- the bytes before the rows
abbrev pub processors_in : List ℕ → ℕ
processors_in b = get_or b 0 0

abbrev pub depth_in : List ℕ → ℕ
depth_in b = get_or b 1 0

abbrev pub count_in : List ℕ → ℕ
count_in b = get_or b 2 0

abbrev pub zero_in : List ℕ → ℕ
zero_in b = get_or b 3 0
