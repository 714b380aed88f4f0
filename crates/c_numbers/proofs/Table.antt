-- The rows of a table, where its numbers stand, and how a loop writes them.
use mathlib.Core.Path.{◌≡◌, refl, sym, ◌∙◌}
use mathlib.Core.List.{List}
use Prim.Native.Nat.{ℕ, suc, ◌+◌, ◌*◌, ◌<◌}
use native.Mathlib.Omega.{arith}
use Rattle.std.proofs.Common.{zero, ap, add-one, zero-add, map, ◌++◌, ◌∷◌, []}
use Rattle.std.specs.List.{range_with_len}
use Rattle.std.proofs.lemmas.List.FromFn.{map-range_with_len_more}
use Rattle.table_row.specs.Limits.{most_rows}
use Rattle.table_row.specs.Row.{no_row}
use Rattle.table.specs.Rows.{rows_by, row_at}
use lib.ListN.{length, get_or, set}
use Rattle.table_row.specs.declared.Row.{Row}
use Rattle.table.specs.declared.Table.{Table}
use Rattle.c_numbers.specs.Lent.{threes, numbers_of}
use Rattle.c_numbers.proofs.Upto.{Upto, upto_none, upto_three, upto_all}
use Rattle.c_numbers.proofs.Threes.{length_threes, first_at, second_at, third_at}

pub rows_mapped : (f : ℕ → Row) (n : ℕ) → map f (range_with_len 0 n) ≡ rows_by f n
unfolding rows_by
rows_mapped f zero = refl
rows_mapped f (suc n) =
    ap (λ (m : ℕ). map f (range_with_len 0 m)) (sym (add-one n))
    ∙ map-range_with_len_more f 0 n n (zero-add n)
    ∙ ap (λ (l : List Row). l ++ (f n ∷ [])) (rows_mapped f n)

abbrev pub T : Row → ℕ
T r = r.period

abbrev pub C : Row → ℕ
C r = r.execution

abbrev pub D : Row → ℕ
D r = r.deadline

-- what stands after m, x and the count
pub past_head : (t : Table) (k o : ℕ) → k ≡ 3 + o → get_or (numbers_of t) k 0 ≡ get_or (threes T C D t.rows) o 0
unfolding numbers_of
past_head t k o e =
    let s : k ≡ suc (suc (suc o)) = omega arith in
    rw s

module _ (t : Table) (full : length t.rows ≡ most_rows) where
  pub length_numbers : length (numbers_of t) ≡ 3 + 3 * most_rows
  unfolding numbers_of
  length_numbers = omega (arith, length_threes T C D no_row t.rows)

  -- m, x and the count
  pub head_written : (l : List ℕ) → length l ≡ 3 + 3 * most_rows → Upto (numbers_of t) 3 (set (set (set l 0 t.processors) 1 t.depth) 2 t.count)
  unfolding numbers_of
  head_written l e = upto_three (upto_none (numbers_of t) l (e ∙ sym length_numbers)) (omega (arith, length_numbers)) refl refl refl

  -- one row more
  pub row_written : (l : List ℕ) (i : ℕ) → i < most_rows → Upto (numbers_of t) (3 + 3 * i) l
      → Upto (numbers_of t) (3 + 3 * (i + 1)) (set (set (set l (3 + 3 * i) (T (row_at t i))) (3 + 3 * i + 1) (C (row_at t i))) (3 + 3 * i + 2) (D (row_at t i)))
  row_written l i h w =
      let k : i < length t.rows = omega arith in
      let e : 3 + 3 * i + 3 ≡ 3 + 3 * (i + 1) = omega arith in
      let at = past_head t (3 + 3 * i) (3 * i) refl ∙ first_at T C D no_row t.rows i k in
      let at1 = past_head t (3 + 3 * i + 1) (3 * i + 1) (omega arith) ∙ second_at T C D no_row t.rows i k in
      let at2 = past_head t (3 + 3 * i + 2) (3 * i + 2) (omega arith) ∙ third_at T C D no_row t.rows i k in
      rw (← e) (upto_three w (omega (arith, length_numbers)) (sym at) (sym at1) (sym at2))

  pub table_written : (l : List ℕ) → Upto (numbers_of t) (3 + 3 * most_rows) l → l ≡ numbers_of t
  table_written l w = upto_all (numbers_of t) l (3 + 3 * most_rows) (omega (arith, length_numbers)) w
