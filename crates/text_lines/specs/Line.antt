-- The lines of the shift check: "Single spaces, decimal, newline at the end."
use Rattle.std.specs.Prelude.{cond, List, ◌++◌, ℕ, eqb}
use Rattle.refusal.specs.Refusal.{Numbered}
use Rattle.judge.specs.Judge.{Numbers}
use Rattle.text_decimal.specs.Decimal.{decimal}
use Rattle.text_decimal.specs.Words.{table_word, infeasible_word, undecided_word, refused_word, space, newline}

-- a word, and a number in decimal right after it
abbrev pub part : List ℕ → ℕ → List ℕ
part word n = word ++ decimal n

-- no line is longer
abbrev pub longest : ℕ
longest = 64

-- "`TABLE`, number, `INFEASIBLE`, t, work, supply"
unfoldable pub infeasible_line : ℕ → ℕ → ℕ → ℕ → List ℕ
infeasible_line number t work supply =
    (((part table_word number ++ part infeasible_word t) ++ part space work) ++ part space supply) ++ newline

-- "or `TABLE`, number, `UNDECIDED`, H"
unfoldable pub undecided_line : ℕ → ℕ → List ℕ
undecided_line number h = (part table_word number ++ part undecided_word h) ++ newline

-- "or, for a refused file, the single line `REFUSED`, number, entry, row"
unfoldable pub refused_line : Numbered → List ℕ
refused_line r = ((part refused_word r.no ++ part space r.entry) ++ part space r.row) ++ newline

-- the line of a table with a number, by the numbers of its verdict: where no length fails t is 0
unfoldable pub table_line : ℕ → Numbers → List ℕ
table_line number v =
    cond (eqb v.t 0) (undecided_line number v.frame) (infeasible_line number v.t v.work v.supply)
