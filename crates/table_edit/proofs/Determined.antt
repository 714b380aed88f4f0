-- The contracts of add and remove determine the answer: two answers that meet one are equal.
use mathlib.Core.Path.{◌≡◌, sym, ap, ◌∙◌}
use Prim.Native.Nat.{ℕ}
use Rattle.std.specs.Prelude.{Result, Ok, Err}
use Rattle.refusal.specs.declared.Refusal.{Refusal}
use Rattle.refusal.proofs.Told.{number_some, told_once}
use Rattle.table_row.specs.declared.Row.{Row}
use Rattle.table.specs.declared.Table.{Table}
use Rattle.table_edit.specs.Edit.{Edited, edited_by, add_of, remove_of}

edited_once : (t : Table) (r s : Result Table Refusal) → edited_by t r ≡ edited_by t s → r ≡ s
edited_once t (Ok u) (Ok v) e = ap (λ (x : Edited). Ok x.table) e
edited_once t (Ok u) (Err q) e = absurd (number_some q.rule (sym (ap (λ (x : Edited). x.refusal.no) e)))
edited_once t (Err q) (Ok u) e = absurd (number_some q.rule (ap (λ (x : Edited). x.refusal.no) e))
edited_once t (Err q) (Err p) e = ap Err (told_once q p (ap (λ (x : Edited). x.refusal) e))

pub add_determined : (t : Table) (row : Row) (r s : Result Table Refusal) → edited_by t r ≡ add_of t row → edited_by t s ≡ add_of t row → r ≡ s
add_determined t row r s p q = edited_once t r s (p ∙ sym q)

pub remove_determined : (t : Table) (index : ℕ) (r s : Result Table Refusal) → edited_by t r ≡ remove_of t index → edited_by t s ≡ remove_of t index → r ≡ s
remove_determined t index r s p q = edited_once t r s (p ∙ sym q)
