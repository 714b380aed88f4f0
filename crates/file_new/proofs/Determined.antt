-- The contract of the sources determines them: two lists of as many entries as a file may have that meet it are equal.
use Rattle.std.proofs.Common.{◌≡◌, ℕ, List, sym, ◌∙◌, arith}
use Rattle.std.proofs.lemmas.List.{ext_get_or}
use Rattle.std.proofs.lemmas.Option.{get_or_from_slice_get}
use Rattle.file_write.specs.declared.Source.{Source}
use Rattle.file_write.specs.declared.Source.TheVariants.{New}
use Rattle.file_new.specs.Steps.{Sources}

pub sources_determined : (i : ℕ) (a b : List Source) → Sources i a → Sources i b → a ≡ b
sources_determined i a b f g =
    ext_get_or New a b (f.many ∙ sym g.many)
    (λ j l.
    get_or_from_slice_get a j _ New (f.each j (omega (arith, f.many)))
    ∙ sym (get_or_from_slice_get b j _ New (g.each j (omega (arith, f.many)))))
