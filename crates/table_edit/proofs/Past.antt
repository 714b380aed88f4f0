-- "Rows past the count never matter", for adding and removing: tables that are alike get the same refusal, and where there is none the same result.
use mathlib.Core.Path.{◌≡◌, sym, ap, ap₂, ◌∙◌}
use mathlib.Core.Bool.{cond}
use mathlib.Core.List.{List, [], ◌∷◌, ◌++◌}
use mathlib.Core.Logic.{⊎_elim}
use Prim.Native.Nat.{ℕ, suc, ◌≤◌}
use native.Mathlib.Omega.{arith}
use lib.Dec.{ltb, eqb}
use lib.ListN.{length, take, drop}
use lib.Seq.{ext_get_or}
use borrow.Author.Tests.{eqb-true, eqb-false}
use Rattle.std.proofs.lemmas.Bool.{cases_Bool}
use Rattle.refusal.specs.Refusal.{Numbered, refuse, none}
use Rattle.refusal.specs.Order.{first}
use Rattle.refusal.proofs.Order.{first_next, first_here}
use Rattle.table_row.specs.declared.Row.{Row}
use Rattle.table.specs.declared.Table.{Table}
use Rattle.table.specs.declared.Beside.{Beside}
use Rattle.table_row.specs.Limits.{most_rows}
use Rattle.table_row.specs.Row.{no_row}
use Rattle.table.specs.Rows.{beside_of, table_of, Alike}
use Rattle.table.specs.Check.{Numbers, check_of}
use Rattle.table.proofs.Accepted.{accepted}
use Rattle.table.proofs.Past.{past_the_count}
use Rattle.table_edit.specs.Edit.{rows_of, added, removed, no_such_row, edited, add_of, remove_of}
use Rattle.table_edit.proofs.Rows.{length_rows}
use Rattle.table_edit.proofs.Places.{rows_at}
use Rattle.table_edit.proofs.Results.{both, all, add_result, remove_result}

-- what comes after a refusal matters only where there is none
first_alike : (p q x y : Numbered) → p ≡ q → (p.no ≡ 0 → x ≡ y) → first p x ≡ first q y
first_alike p q x y e f =
    ⊎_elim
    (λ b. let z : p.no ≡ 0 = eqb-true _ _ b in sym (first_next p x z) ∙ f z ∙ first_next q y (sym (ap (λ (r : Numbered). r.no) e) ∙ z))
    (λ b. let z : p.no ≡ 0 → ⊥ = eqb-false _ _ b in sym (first_here p x z) ∙ e ∙ first_here q y (λ k. z (ap (λ (r : Numbered). r.no) e ∙ k)))
    (cases_Bool (eqb p.no 0))

module _ (t u : Table) (full : length t.rows ≡ most_rows) (full' : length u.rows ≡ most_rows) (a : Alike t u) where
  given_alike : (check_of t).refusal ≡ (check_of u).refusal
  given_alike = ap (λ (n : Numbers). n.refusal) (past_the_count t u a)

  rows_alike : (check_of t).refusal.no ≡ 0 → rows_of t ≡ rows_of u
  rows_alike e =
      let few = (accepted t e).count_high in
      let few' : u.count ≤ most_rows = omega (arith, a.count) in
      let long = length_rows t full few in
      ext_get_or no_row (rows_of t) (rows_of u) (long ∙ a.count ∙ sym (length_rows u full' few'))
      (λ i h. rows_at t full few i (omega arith) ∙ a.rows i (omega arith) ∙ sym (rows_at u full' few' i (omega (arith, a.count))))

  result_alike : (f : List Row → List Row) → (check_of t).refusal.no ≡ 0 → table_of (beside_of t) (f (rows_of t)) ≡ table_of (beside_of u) (f (rows_of u))
  result_alike f e = ap₂ (λ (b : Beside) (l : List Row). table_of b (f l)) a.beside (rows_alike e)

  module _ (row : Row) where
    added_alike : (check_of t).refusal.no ≡ 0 → added t row ≡ added u row
    unfolding added
    added_alike = result_alike (λ l. l ++ row ∷ [])

    pub add_refusal_alike : (add_of t row).refusal ≡ (add_of u row).refusal
    unfolding add_of edited
    add_refusal_alike = first_alike _ _ _ _ given_alike (λ e. ap (λ (v : Table). (check_of v).refusal) (added_alike e))

    pub add_alike : (add_of t row).refusal.no ≡ 0 → add_of t row ≡ add_of u row
    add_alike e =
        let e' = sym (ap (λ (r : Numbered). r.no) add_refusal_alike) ∙ e in
        add_result t row e
        ∙ ap (λ (v : Table). record { refusal = none; table = v }) (added_alike (both t row e).0)
        ∙ sym (add_result u row e')

  module _ (index : ℕ) where
    removed_alike : (check_of t).refusal.no ≡ 0 → removed t index ≡ removed u index
    unfolding removed
    removed_alike = result_alike (λ l. take index l ++ drop (suc index) l)

    there_alike : no_such_row t index ≡ no_such_row u index
    unfolding no_such_row
    there_alike = ap (λ (n : ℕ). cond (ltb index n) none (refuse 18)) a.count

    pub remove_refusal_alike : (remove_of t index).refusal ≡ (remove_of u index).refusal
    unfolding remove_of edited
    remove_refusal_alike =
        first_alike _ _ _ _ given_alike (λ e. ap₂ first there_alike (ap (λ (v : Table). (check_of v).refusal) (removed_alike e)))

    pub remove_alike : (remove_of t index).refusal.no ≡ 0 → remove_of t index ≡ remove_of u index
    remove_alike e =
        let e' = sym (ap (λ (r : Numbered). r.no) remove_refusal_alike) ∙ e in
        remove_result t index e
        ∙ ap (λ (v : Table). record { refusal = none; table = v }) (removed_alike (all t index e).0)
        ∙ sym (remove_result u index e')
