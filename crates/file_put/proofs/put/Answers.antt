-- The early refusals, or what the writing answers of the new file.
use Rattle.std.proofs.Common.{◌≡◌, Option, ℕ, ◌≤◌, List, length, take, replicate, unwrap_or, sym, ap, ap₂, ◌∙◌, subst, arith}
use Rattle.std.proofs.lemmas.List.{length-take-le}
use Rattle.std.proofs.lemmas.Result.{err_from_is_err_and}
use native.Mathlib.Nat.{le_refl}
use Rattle.table_row.specs.Limits.{most_rows}
use Rattle.table.proofs.Accepted.{accepted}
use Rattle.file_bytes.proofs.Overs.{length_over}
use Rattle.file_entries.specs.Limits.{most_entries}
use Rattle.file_entries.specs.Entries.{count_of, sought, seek_of}
use Rattle.file_bodies.specs.Layout.{most_body}
use Rattle.file_bodies.specs.Body.{table_bytes}
use Rattle.file_check.proofs.Fine.{file_is_fine}
use Rattle.file_contents.specs.File.{Entry as FileEntry}
use Rattle.file_new.specs.New.{table_entry, new_entries}
use Rattle.file_new.specs.Steps.{Sources, count_with}
use Rattle.file_new.proofs.Entered.{entered_count, place_is}
use Rattle.file_new.proofs.Steps.{Early, early_is_fine}
use Rattle.file_put.proofs.Outcomes.{file_of_parts, buffer_is, puts_none, puts_file}
use Rattle.file_put.proofs.put.Goals.{After-row_place, After-count_with, After-sources-list, In_ok-early_refusal}
use Rattle.file_put.proofs.put.Goals as goal

early : (c : In_ok-early_refusal) → Early c.args.s.now c.args.number c.args.t
early c = early_is_fine _ _ _ (rw (← c.in_ok-early_refusal.ensures))

few : (c : In_ok-early_refusal) → c.args.t.count ≤ most_rows
few c = (accepted _ (early c).table).count_high

-- the body of the new table is in the buffer
fits : (c : After-row_place) → c.row_place.result ≤ length c.table_bytes-bytes.result
fits c =
    let f = few (goal.at.slice_bounds-bytes-end c).In_ok-early_refusal in
    let e = c.row_place.ensures.same in
    let l = ap length c.table_bytes-bytes.ensures ∙ length_over (replicate most_body 0) 0 (table_bytes c.args.t) in
    omega arith

body_is : (c : After-row_place) → take c.row_place.result c.table_bytes-bytes.result ≡ table_bytes c.args.t
body_is c =
    ap₂ take c.row_place.ensures.same c.table_bytes-bytes.ensures
    ∙ buffer_is (replicate most_body 0) c.args.t (omega arith) (few (goal.at.slice_bounds-bytes-end c).In_ok-early_refusal) (le_refl most_body)

-- the place of the new entry
place_of : (s : List ℕ) (number : ℕ) {i n : ℕ} {o : Option ℕ} → i ≡ unwrap_or o n → o ≡ sought (seek_of s number) (count_of s) → n ≡ count_of s → i ≡ seek_of s number
place_of s number e f g = e ∙ ap₂ unwrap_or f g ∙ place_is s number

-- the number of entries of the new file
many : In_ok-early_refusal → ℕ
many c = let s = c.args.s.now in count_with (count_of s) (seek_of s c.args.number)

many_few : (c : In_ok-early_refusal) → many c ≤ most_entries
unfolding many new_entries
many_few c =
    let e = (early c).few in
    omega (arith, entered_count c.args.s.now (table_entry c.args.number c.args.t))

many_is : (c : After-count_with) → let s = c.args.s.now in c.count_with.result ≡ count_with (count_of s) (seek_of s c.args.number)
many_is c =
    let n = c.count-count.ensures in
    c.count_with.ensures ∙ ap₂ count_with n (place_of c.args.s.now c.args.number c.unwrap_or-place.ensures c.seek_of.ensures n)

-- and where each comes from
held : (c : After-sources-list) → Sources (seek_of c.args.s.now c.args.number) c.sources-list.result
held c =
    let e = place_of c.args.s.now c.args.number c.unwrap_or-place.ensures c.seek_of.ensures c.count-count.ensures in
    subst (λ (i : ℕ). Sources i c.sources-list.result) e c.sources-list.ensures

pub returns-in_err-early_refusal : goal.returns-in_err-early_refusal
returns-in_err-early_refusal c =
    let p = err_from_is_err_and c.from_residual.result c.from_residual.ensures.1 in
    rw (p.1, p.2) (puts_none _ _ _ _ _ c.in_err-early_refusal.ensures)

pub table_bytes-bytes-requires : goal.table_bytes-bytes-requires
table_bytes-bytes-requires c = (early c).table

pub slice_bounds-bytes-end : goal.slice_bounds-bytes-end
slice_bounds-bytes-end c = fits c

pub slice_bounds-body-end : goal.slice_bounds-body-end
slice_bounds-body-end c = sym (length-take-le _ c.table_bytes-bytes.result (fits (goal.at.slice_bounds-body-end c).After-row_place))

pub slice_bounds-list-end : goal.slice_bounds-list-end
unfolding many
slice_bounds-list-end c =
    let n = many_is c in
    let m = many_few (goal.at.slice_bounds-list-end c).In_ok-early_refusal in
    omega arith

pub slice_bounds-sources-end : goal.slice_bounds-sources-end
unfolding many
slice_bounds-sources-end c =
    let at = goal.at.slice_bounds-sources-end c in
    let n = many_is at.After-count_with in
    let m = many_few at.In_ok-early_refusal in
    sym (length-take-le _ c.sources-list.result (omega arith))

pub write-requires-clause-old_short : goal.write-requires-clause-old_short
write-requires-clause-old_short c =
    rw c.new.ensures.old (file_is_fine _ (early (goal.at.write-requires-clause-old_short c).In_ok-early_refusal).file).contents.head.most

pub write-requires-clause-new_short : goal.write-requires-clause-new_short
write-requires-clause-new_short c =
    let row = (goal.at.write-requires-clause-new_short c).After-row_place in
    let e = ap (λ (e : FileEntry). length e.body) c.new.ensures.new in
    let n = length-take-le c.row_place.result c.table_bytes-bytes.result (fits row) in
    let f = few (goal.at.write-requires-clause-new_short c).In_ok-early_refusal in
    let r = c.row_place.ensures.same in
    omega arith

pub returns : goal.returns
returns c =
    let at = goal.at.returns c in
    let a = c.args in
    let p = c.new.ensures in
    let is = file_of_parts a.s.now a.number a.t c.new.result _ _ _ p.old p.new p.sources (body_is at.After-row_place) (many_is at.After-count_with) (held at.After-sources-list) (early at.In_ok-early_refusal).few in
    puts_file _ _ _ _ _ _ c.in_ok-early_refusal.ensures (rw is at c.write.ensures)
