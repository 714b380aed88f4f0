-- Put's contract determines its answer and the output at exit: two outcomes that meet it are equal.
use Rattle.std.proofs.Common.{◌≡◌, ℕ, List, Result, Ok, Err, sym, ap}
use Rattle.basics.proofs.Determined.{by_equation}
use Rattle.refusal.specs.declared.Refusal.{Refusal}
use Rattle.refusal.proofs.Told.{number_some, told_once}
use Rattle.table.specs.declared.Table.{Table}
use Rattle.file_put.specs.Put.{Written, written, Puts}

written_once : (r q : Result ℕ Refusal) → written r ≡ written q → r ≡ q
written_once (Ok n) (Ok m) e = ap (λ (a : Written). Ok a.length) e
written_once (Ok n) (Err q) e = absurd (number_some q.rule (sym (ap (λ (a : Written). a.refusal.no) e)))
written_once (Err r) (Ok m) e = absurd (number_some r.rule (ap (λ (a : Written). a.refusal.no) e))
written_once (Err r) (Err q) e = ap Err (told_once r q (ap (λ (a : Written). a.refusal) e))

pub put_determined : (s : List ℕ) (number : ℕ) (t : Table) (before x y : List ℕ) (r q : Result ℕ Refusal) → Puts s number t before x (written r) → Puts s number t before y (written q)
    → (r ≡ q) × (x ≡ y)
put_determined s number t before x y r q f g = (written_once r q (by_equation f.answer g.answer), by_equation f.output g.output)
