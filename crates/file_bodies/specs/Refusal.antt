-- The refusals of a table's body: "15 and 1 to 7".
use Rattle.std.specs.Prelude.{ℕ, List, length, ltb, eqb}
use Rattle.basics.specs.When.{when, unless}
use Rattle.refusal.specs.Refusal.{Numbered, refuse}
use Rattle.table.specs.Check.{table_refusal}
use Rattle.file_bodies.specs.Layout.{body_head, body_length, count_in, zero_in}
use Rattle.file_bodies.specs.Body.{body_table}

-- 15: "table body under 4 bytes, or its zero byte not 0, or length not 4 + 6 times its count"
unfoldable pub body_refusal : List ℕ → Numbered
body_refusal b =
    when (ltb (length b) body_head) (refuse 15)
    (unless (eqb (zero_in b) 0) (refuse 15)
    (unless (eqb (length b) (body_length (count_in b))) (refuse 15) (table_refusal (body_table b))))
