-- Each contract determines its answer: two answers that meet it are equal.
use Rattle.std.proofs.Common.{◌≡◌, ℕ, List, Result, Ok, Err, sym, ap, ◌∙◌}
use Rattle.refusal.specs.declared.Refusal.{Refusal}
use Rattle.refusal.specs.Told.{told_in}
use Rattle.refusal.proofs.Told.{number_some, told_once, told_in_once}
use Rattle.table.specs.declared.Table.{Table}
use Rattle.file_check.specs.Check.{Numbers, numbers, file_refusal, check_file}
use Rattle.file_check.specs.Find.{Found, found, find_of}

numbers_once : (r q : Result ℕ Refusal) → numbers r ≡ numbers q → r ≡ q
numbers_once (Ok n) (Ok m) e = ap (λ (a : Numbers). Ok a.entries) e
numbers_once (Ok n) (Err q) e = absurd (number_some q.rule (sym (ap (λ (a : Numbers). a.refusal.no) e)))
numbers_once (Err r) (Ok m) e = absurd (number_some r.rule (ap (λ (a : Numbers). a.refusal.no) e))
numbers_once (Err r) (Err q) e = ap Err (told_once r q (ap (λ (a : Numbers). a.refusal) e))

pub check_determined : (s : List ℕ) (r q : Result ℕ Refusal) → numbers r ≡ check_file s → numbers q ≡ check_file s → r ≡ q
check_determined s r q f g = numbers_once r q (f ∙ sym g)

pub refusal_determined : (s : List ℕ) (r q : Result Unit Refusal) → told_in r ≡ file_refusal s → told_in q ≡ file_refusal s → r ≡ q
refusal_determined s r q f g = told_in_once r q (f ∙ sym g)

found_once : (r q : Result Table Refusal) → found r ≡ found q → r ≡ q
found_once (Ok t) (Ok u) e = ap (λ (a : Found). Ok a.table) e
found_once (Ok t) (Err q) e = absurd (number_some q.rule (sym (ap (λ (a : Found). a.refusal.no) e)))
found_once (Err r) (Ok u) e = absurd (number_some r.rule (ap (λ (a : Found). a.refusal.no) e))
found_once (Err r) (Err q) e = ap Err (told_once r q (ap (λ (a : Found). a.refusal) e))

pub find_determined : (s : List ℕ) (number : ℕ) (r q : Result Table Refusal) → found r ≡ find_of s number → found q ≡ find_of s number → r ≡ q
find_determined s number r q f g = found_once r q (f ∙ sym g)
