-- Removing the row that was added last gives the table back, with zeros past its count.
use mathlib.Core.Path.{◌≡◌, refl, sym, ap, ap₂, ◌∙◌}
use mathlib.Core.List.{List, [], ◌∷◌, ◌++◌, append-nil}
use Prim.Native.Nat.{suc, ◌-◌, ◌≤◌, ◌<◌}
use native.Mathlib.Omega.{arith}
use lib.ListN.{length, take, drop, replicate, drop_of_length-le}
use lib.Seq.{take-append_seam, take_at}
use Rattle.table_row.specs.declared.Row.{Row}
use Rattle.table.specs.declared.Table.{Table}
use Rattle.table_row.specs.Limits.{most_rows}
use Rattle.refusal.specs.Refusal.{Numbered, none}
use Rattle.table_row.specs.Row.{no_row}
use Rattle.table.specs.Check.{check_of}
use Rattle.table.proofs.Accepted.{accepted}
use Rattle.table.proofs.Past.{past_the_count}
use Rattle.table_edit.specs.Edit.{Edited, rows_of, with_rows, added, removed, edited, add_of, remove_of}
use Rattle.table_edit.proofs.Rows.{length_rows, length_added}
use Rattle.table_edit.proofs.Steps.{gives, remove_settled}
use Rattle.table_edit.proofs.Results.{no_refusal, both, add_result}
use Rattle.table_edit.proofs.Places.{at_row, rows_at, count_added}

-- the table with zeros past its count
abbrev pub trimmed : Table → Table
trimmed t = with_rows t (rows_of t)

module _ (t : Table) (row : Row) (full : length t.rows ≡ most_rows) (fine : (add_of t row).refusal.no ≡ 0) where
  few : t.count ≤ most_rows
  few = (accepted t (both t row fine).0).count_high

  last_removed : removed (added t row) t.count ≡ trimmed t
  unfolding added removed
  last_removed =
      let l = rows_of t ++ row ∷ [] in
      let seam : take (length l) (l ++ replicate (most_rows - length l) no_row) ≡ l = take-append_seam l _ in
      let none_left : length l ≤ suc t.count = omega (arith, length_added t full row few) in
      let front = take_at (rows_of t) (row ∷ []) t.count (length_rows t full few) in
      ap (λ (k : List Row). with_rows t (take t.count k ++ drop (suc t.count) k)) seam
      ∙ ap (with_rows t) (ap₂ (λ (x y : List Row). x ++ y) front (drop_of_length-le l none_left) ∙ append-nil (rows_of t))

  trimmed_fine : (check_of (trimmed t)).refusal.no ≡ 0
  trimmed_fine =
      let long = length_rows t full few in
      let same = past_the_count t (trimmed t) (record {
        beside = refl;
        count = sym long;
        rows = λ i h. sym (at_row t (rows_of t) i (omega arith) ∙ rows_at t full few i h);
      }) in
      rw (← same) (both t row fine).0

  pub remove_added : remove_of (add_of t row).table t.count ≡ record { refusal = none; table = trimmed t }
  remove_added =
      let u = added t row in
      let there : t.count < u.count = omega (arith, count_added t full few row) in
      ap (λ (x : Edited). remove_of x.table t.count) (add_result t row fine)
      ∙ sym (remove_settled u t.count (both t row fine).1 there)
      ∙ ap (λ (v : Table). edited u (check_of v).refusal v) last_removed
      ∙ sym (gives u (check_of (trimmed t)).refusal (trimmed t) trimmed_fine)
      ∙ ap (λ (r : Numbered). record { refusal = r; table = trimmed t }) (no_refusal (trimmed t) trimmed_fine)
