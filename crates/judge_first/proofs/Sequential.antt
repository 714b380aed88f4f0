-- What the passes know of a table's model: a row of it, that each row counts for one, and that every slot has m processors.
use mathlib.Core.Path.{◌≡◌, refl, sym, ap, ◌∙◌}
use Prim.Native.Nat.{ℕ, ◌*◌}
use native.Mathlib.Nat.{one-mul}
use lib.Count.{ones}
use Rattle.basics.specs.Sum.{bit}
use Rattle.basics.proofs.Sums.{sum_eq}
use Rattle.model.specs.Model.{Model, Map}
use Rattle.model.specs.Pins.{size}
use Rattle.sets.specs.Word.{words}
use Rattle.sets.proofs.Words.{ones_word}
use Rattle.table_row.specs.declared.Row.{Row}
use Rattle.table.specs.declared.Table.{Table}
use Rattle.table.specs.Meaning.{model_of}

-- row i, with T, C and D: of a table's model it is the table's row
abbrev pub row_of : Model → ℕ → Row
row_of M i = record { period = M.period i; execution = M.execution i; deadline = M.deadline i }

-- "Tables of sequential tasks on identical processors", "All m processors serve every slot"
pub record Sequential (M : Model) (m : ℕ) : Type 0 where
  pub weight : (i : ℕ) → M.weight i ≡ 1
  pub capacity : (s : ℕ) → M.capacity s ≡ m

pub sequential : (t : Table) → Sequential (model_of t) t.processors
sequential t = record { weight = λ i. refl; capacity = λ s. refl }

-- "the size of a set is its count of ones"
pub size_word : {M : Model} {m : ℕ} → Sequential M m → (A : Map) (s : ℕ) → ones (words M A s) ≡ size M A s
unfolding size
size_word {M} q A s =
    ones_word M.rows (A s)
    ∙ sum_eq M.rows (λ i l. sym (ap (λ (z : ℕ). z * bit (A s i)) (q.weight i) ∙ one-mul (bit (A s i))))
