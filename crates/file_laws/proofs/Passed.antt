-- What put has found in order, where it refuses nothing.
use mathlib.Core.Path.{◌≡◌}
use mathlib.Core.Bool.{false}
use Prim.Native.Nat.{ℕ, ◌≤◌}
use native.Mathlib.Omega.{arith}
use mathlib.Core.List.{List}
use lib.ListN.{length}
use lib.Dec.{leb}
use borrow.Author.Tests.{leb-true}
use Rattle.refusal.specs.Refusal.{Numbered, refuse, none}
use Rattle.table.specs.declared.Table.{Table}
use Rattle.refusal.proofs.Order.{first_fine}
use Rattle.basics.proofs.When.{when_passed, unless_passed}
use Rattle.file_entries.specs.Limits.{most_entries, most_bytes}
use Rattle.table.specs.Check.{table_refusal}
use Rattle.file_check.specs.Check.{file_refusal}
use Rattle.file_new.specs.New.{new_entries, new_file, note_has, put_refusal}

abbrev code : Numbered → ℕ
code r = r.no

pub record Passed (s : List ℕ) (number : ℕ) (t : Table) (room : ℕ) : Type 0 where
  pub file : (file_refusal s).no ≡ 0
  pub table : (table_refusal t).no ≡ 0
  pub note : note_has s number ≡ false
  pub few : length (new_entries s number t) ≤ most_entries
  pub short : length (new_file s number t) ≤ most_bytes
  pub fits : length (new_file s number t) ≤ room

pub put_passed : (s : List ℕ) (number : ℕ) (t : Table) (room : ℕ) → (put_refusal s number t room).no ≡ 0 → Passed s number t room
unfolding put_refusal
put_passed s number t room h =
    let a = first_fine _ _ h in
    let b = first_fine _ _ a.1 in
    let c = when_passed code (note_has s number) (refuse 17) _ 0 b.1 (λ e. omega arith) in
    let d = unless_passed code (leb (length (new_entries s number t)) most_entries) (refuse 11) _ 0 c.1 (λ e. omega arith) in
    let e = unless_passed code (leb (length (new_file s number t)) most_bytes) (refuse 9) _ 0 d.1 (λ e. omega arith) in
    let f = unless_passed code (leb (length (new_file s number t)) room) (refuse 19) none 0 e.1 (λ e. omega arith) in
    record { file = a.0; table = b.0; note = c.0; few = leb-true _ _ d.0; short = leb-true _ _ e.0; fits = leb-true _ _ f.0 }
