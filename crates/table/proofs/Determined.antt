-- The contracts of the check, and of its steps, determine their answers: two answers that meet one are equal.
use mathlib.Core.Path.{◌≡◌, sym, ap, subst₂, ◌∙◌}
use Prim.Native.Nat.{ℕ}
use Rattle.std.proofs.Props.{props}
use Rattle.std.specs.Prelude.{Result, Ok, Err}
use Rattle.refusal.specs.declared.Refusal.{Refusal}
use Rattle.refusal.specs.Told.{told}
use Rattle.refusal.proofs.Told.{number_some, told_once, told_in_once}
use Rattle.table_row.specs.declared.Row.{Row}
use Rattle.table.specs.declared.Table.{Table}
use Rattle.table.specs.declared.Beside.{Beside}
use Rattle.table.specs.declared.Seen.{Seen}
use Rattle.table.specs.declared.framed.Framed.{Framed}
use Rattle.table.specs.Meaning.{Accepted}
use Rattle.table.specs.Check.{Numbers, framed, refused_by, numbers, check_rows, check_of}
use Rattle.table.specs.Seen.{SeenNumbers, seen}

-- no frame is told as a refusal is
pub apart : (h : ℕ) (r : Refusal) → framed h ≡ refused_by (told r) → ⊥
apart h r e = number_some r.rule (sym (ap (λ (n : Numbers). n.refusal.no) e))

pub numbers_once : (r s : Result ℕ Refusal) → numbers r ≡ numbers s → r ≡ s
numbers_once (Ok h) (Ok k) e = ap (λ (n : Numbers). Ok n.frame) e
numbers_once (Ok h) (Err r) e = absurd (apart h r e)
numbers_once (Err r) (Ok h) e = absurd (apart h r (sym e))
numbers_once (Err r) (Err s) e = ap Err (told_once r s (ap (λ (n : Numbers). n.refusal) e))

pub rows_determined : (b : Beside) (n : ℕ) (row : ℕ → Row) (r s : Result ℕ Refusal) → numbers r ≡ check_rows b n row → numbers s ≡ check_rows b n row → r ≡ s
rows_determined b n row r s p q = numbers_once r s (p ∙ sym q)

pub determined : (t : Table) (r s : Result ℕ Refusal) → numbers r ≡ check_of t → numbers s ≡ check_of t → r ≡ s
determined t r s p q = numbers_once r s (p ∙ sym q)

-- the rows seen are told by their numbers
with_fault : SeenNumbers → Result Unit Refusal → Seen
with_fault n f = record { beside = n.beside; count = n.count; fault = f; frame = n.frame; last = n.last }

pub seen_once : (s u : Seen) → seen s ≡ seen u → s ≡ u
unfolding with_fault
seen_once s u e =
    ap (λ (n : SeenNumbers). with_fault n s.fault) e ∙ ap (with_fault (seen u)) (told_in_once s.fault u.fault (ap (λ (n : SeenNumbers). n.fault) e))

-- an accepted table with its frame is told by the two
accepted_once : (t : Table) (h : ℕ) → IsProp (Accepted t h)
accepted_once t h = hlevel props

made : (t : Table) (h : ℕ) → Accepted t h → Framed
made t h a = record { table = t; frame = h; accepted = a }

pub framed_once : (x y : Framed) → x.table ≡ y.table → x.frame ≡ y.frame → x ≡ y
unfolding made
framed_once x y e f =
    subst₂ (λ (t : Table) (h : ℕ). (a : Accepted t h) → x ≡ made t h a) e f
    (λ a. ap (made x.table x.frame) (accepted_once x.table x.frame x.accepted a)) y.accepted
