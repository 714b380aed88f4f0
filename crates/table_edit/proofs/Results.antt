-- What comes back: a result that the check accepts, or the table as it came.
use mathlib.Core.Path.{◌≡◌, sym, ap, ◌∙◌}
use mathlib.Core.Logic.{⊎_elim}
use Prim.Native.Nat.{ℕ, ◌<◌}
use native.Mathlib.Omega.{arith}
use borrow.Author.Tests.{le-ltb, ne_eqb}
use Rattle.basics.proofs.Bools.{lt_or_ge}
use Rattle.table_row.specs.declared.Row.{Row}
use Rattle.table.specs.declared.Table.{Table}
use Rattle.refusal.specs.Refusal.{Numbered, none}
use Rattle.table.specs.Check.{check_of}
use Rattle.table.proofs.Accepted.{outcome}
use Rattle.refusal.specs.Order.{first}
use Rattle.refusal.proofs.Order.{first_fine}
use Rattle.table_edit.specs.Edit.{added, removed, no_such_row, edited, add_of, remove_of}
use Rattle.table_edit.proofs.Steps.{gives, add_settled, remove_settled}

-- a refusal with number 0 has no row and no entry either
pub no_refusal : (t : Table) → (check_of t).refusal.no ≡ 0 → (check_of t).refusal ≡ none
no_refusal t e = ⊎_elim (λ f. f.1) (λ r. absurd (omega (arith, r.number))) (outcome t)

-- the table that comes back is the result or the given one, by the refusal
refused_same : (t : Table) (r : Numbered) (result : Table) → ((edited t r result).refusal.no ≡ 0 → ⊥) → (edited t r result).table ≡ t
unfolding edited
refused_same t r result f = rw (ne_eqb _ _ f)

module _ (t : Table) (row : Row) where
  pub both : (add_of t row).refusal.no ≡ 0 → ((check_of t).refusal.no ≡ 0) × ((check_of (added t row)).refusal.no ≡ 0)
  unfolding add_of edited
  both e = first_fine (check_of t).refusal (check_of (added t row)).refusal e

  -- a refused add gives the table back
  pub add_refused : ((add_of t row).refusal.no ≡ 0 → ⊥) → (add_of t row).table ≡ t
  unfolding add_of
  add_refused f = refused_same t (first (check_of t).refusal (check_of (added t row)).refusal) (added t row) f

  -- an accepted one gives the table with the row at the end, and the check accepts that
  pub add_result : (add_of t row).refusal.no ≡ 0 → add_of t row ≡ record { refusal = none; table = added t row }
  add_result e =
      let b = both e in
      sym (add_settled t row b.0) ∙ sym (gives t (check_of (added t row)).refusal (added t row) b.1)
      ∙ ap (λ (r : Numbered). record { refusal = r; table = added t row }) (no_refusal (added t row) b.1)

  pub add_accepted : (add_of t row).refusal.no ≡ 0 → (check_of (add_of t row).table).refusal ≡ none
  add_accepted e = rw (add_result e) (no_refusal (added t row) (both e).1)

module _ (t : Table) (index : ℕ) where
  pub all : (remove_of t index).refusal.no ≡ 0
      → ((check_of t).refusal.no ≡ 0) × (((no_such_row t index).no ≡ 0) × ((check_of (removed t index)).refusal.no ≡ 0))
  unfolding remove_of edited
  all e =
      let b = first_fine (check_of t).refusal (first (no_such_row t index) (check_of (removed t index)).refusal) e in
      (b.0, first_fine (no_such_row t index) (check_of (removed t index)).refusal b.1)

  -- the row is there
  pub row_there : (no_such_row t index).no ≡ 0 → index < t.count
  unfolding no_such_row
  row_there e = ⊎_elim (λ h. h) (λ h. absurd (omega (arith, rw (le-ltb index t.count h) at e))) (lt_or_ge index t.count)

  pub remove_refused : ((remove_of t index).refusal.no ≡ 0 → ⊥) → (remove_of t index).table ≡ t
  unfolding remove_of
  remove_refused f = refused_same t (first (check_of t).refusal (first (no_such_row t index) (check_of (removed t index)).refusal)) (removed t index) f

  pub remove_result : (remove_of t index).refusal.no ≡ 0 → remove_of t index ≡ record { refusal = none; table = removed t index }
  remove_result e =
      let b = all e in
      sym (remove_settled t index b.0 (row_there b.1.0)) ∙ sym (gives t (check_of (removed t index)).refusal (removed t index) b.1.1)
      ∙ ap (λ (r : Numbered). record { refusal = r; table = removed t index }) (no_refusal (removed t index) b.1.1)

  pub remove_accepted : (remove_of t index).refusal.no ≡ 0 → (check_of (remove_of t index).table).refusal ≡ none
  remove_accepted e = rw (remove_result e) (no_refusal (removed t index) (all e).1.1)
