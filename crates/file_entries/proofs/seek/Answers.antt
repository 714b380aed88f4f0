-- The first entry that passes the test is the first that has the number.
use Rattle.std.proofs.Common.{◌≡◌, true, false, eqb, rules, tests}
use Rattle.std.proofs.lemmas.Iterator.{first_from_Range}
use Rattle.file_entries.specs.Entries.{number_at}
use Rattle.file_entries.proofs.Seeks.{seek_first}
use Rattle.file_entries.proofs.seek.Goals as goal

pub returns : goal.returns
returns c =
    let a = c.args in
    seek_first a.s.now a.number a.n c.find.result
    (first_from_Range _ _ _ c.find.result (λ i. eqb (number_at a.s.now i) a.number ≡ true) (λ i. eqb (number_at a.s.now i) a.number ≡ false) c.find.ensures.ran
    (λ x q k. search (rules, tests))
    (λ x q k. search (rules, tests)))
