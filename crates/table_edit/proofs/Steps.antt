-- How the code comes to each answer.
use mathlib.Core.Path.{◌≡◌, refl, sym, ap, ◌∙◌}
use mathlib.Core.List.{[], ◌∷◌, ◌++◌}
use Prim.Native.Nat.{ℕ, ◌+◌, ◌≤◌, ◌<◌}
use native.Mathlib.Omega.{arith}
use lib.ListN.{length}
use borrow.Author.Tests.{lt-ltb, le-ltb, eq-eqb, ne_eqb}
use Rattle.table_row.specs.declared.Row.{Row}
use Rattle.table.specs.declared.Table.{Table}
use Rattle.table_row.specs.Limits.{most_processors, most_depths, most_rows}
use Rattle.refusal.specs.Refusal.{Numbered, refuse, none}
use Rattle.table.specs.Rows.{row_at, beside_of}
use Rattle.table.specs.Check.{Numbers, refused, check_of}
use Rattle.basics.proofs.Range.{inside_of, inside_not}
use Rattle.table.proofs.Accepted.{accepted}
use Rattle.table.proofs.Steps.{rows_count}
use Rattle.refusal.specs.Order.{first}
use Rattle.refusal.proofs.Order.{first_next, first_here}
use Rattle.table_edit.specs.Edit.{rows_of, added, removed, no_such_row, edited, add_of, remove_of}
use Rattle.table_edit.proofs.Rows.{length_added}

-- the table as it came, with the refusal; and the result, with none
pub keeps : (t : Table) (r : Numbered) (result : Table) → (r.no ≡ 0 → ⊥) → record { refusal = r; table = t } ≡ edited t r result
unfolding edited
keeps t r result f = rw (ne_eqb _ _ f)

pub gives : (t : Table) (r : Numbered) (result : Table) → r.no ≡ 0 → record { refusal = r; table = result } ≡ edited t r result
unfolding edited
gives t r result e = rw (eq-eqb _ _ e)

-- the first refusal is the answer
stops : (t result : Table) (p r s : Numbered) → r ≡ p → (r.no ≡ 0 → ⊥) → record { refusal = r; table = t } ≡ edited t (first p s) result
stops t result p r s e f =
    keeps t r result f
    ∙ ap (λ (x : Numbered). edited t x result) (first_here r s f ∙ ap (λ (x : Numbered). first x s) e)

module _ (t : Table) (row : Row) where
  -- "so a 33rd row .. is 3"
  pub full_is_3 : length t.rows ≡ most_rows → (check_of t).refusal.no ≡ 0 → most_rows ≤ t.count → check_of (added t row) ≡ refused 3 0
  unfolding check_of added
  full_is_3 l e h =
      let a = accepted t e in
      let many : length (rows_of t ++ row ∷ []) ≡ most_rows + 1 = omega (arith, length_added t l row a.count_high, a.count_high) in
      sym (rows_count (beside_of t) (added t row).count (row_at (added t row))
      (inside_of 1 _ most_processors a.m_low a.m_high) (inside_of 1 _ most_depths a.x_low a.x_high) (inside_not 1 (added t row).count most_rows (λ p q. omega (arith, many))))

  pub add_full : length t.rows ≡ most_rows → (check_of t).refusal.no ≡ 0 → most_rows ≤ t.count → record { refusal = refuse 3; table = t } ≡ add_of t row
  unfolding add_of
  add_full l e h =
      keeps t (refuse 3) (added t row) (λ z. omega arith)
      ∙ ap (λ (x : Numbered). edited t x (added t row))
      (sym (ap (λ (x : Numbers). x.refusal) (full_is_3 l e h)) ∙ first_next (check_of t).refusal _ e)

  pub add_settled : (check_of t).refusal.no ≡ 0 → edited t (check_of (added t row)).refusal (added t row) ≡ add_of t row
  unfolding add_of
  add_settled e = rw (← first_next (check_of t).refusal (check_of (added t row)).refusal e)

module _ (t : Table) (index : ℕ) where
  pub remove_none : (check_of t).refusal.no ≡ 0 → t.count ≤ index → record { refusal = refuse 18; table = t } ≡ remove_of t index
  unfolding remove_of no_such_row
  remove_none e h =
      stops t (removed t index) (no_such_row t index) (refuse 18) (check_of (removed t index)).refusal (rw (le-ltb _ _ h)) (λ z. omega arith)
      ∙ ap (λ (x : Numbered). edited t x (removed t index)) (first_next (check_of t).refusal _ e)

  pub remove_settled : (check_of t).refusal.no ≡ 0 → index < t.count
      → edited t (check_of (removed t index)).refusal (removed t index) ≡ remove_of t index
  unfolding remove_of no_such_row
  remove_settled e h = rw (← first_next (check_of t).refusal _ e, lt-ltb _ _ h, ← first_next none _ refl)
