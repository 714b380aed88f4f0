-- The bytes of the contents, and of the bodies of the sources so far.
use Rattle.std.proofs.Common.{length, get_or, ap, arith}
use Rattle.file_contents.specs.File.{Entry, bodies_of}
use Rattle.file_entries.specs.Limits.{most_bytes}
use Rattle.file_write.specs.declared.Source.TheVariants.{New}
use Rattle.file_write.specs.Sources.{held, entry_in}
use Rattle.file_write.proofs.Turns.{length_next, length_all, body_short}
use Rattle.file_write.proofs.Parts.file_length.Goals as goal

pub loop-source-init : goal.loop-source-init
unfolding bodies_of
loop-source-init c = let e = c.after_entries-len.ensures.same in record { len = omega arith; bound = omega arith }

pub loop-source-preserved : goal.loop-source-preserved
loop-source-preserved c =
    let p = c.args.self in
    let l = c.loop-source in
    let n = length_next (entry_in p) p.sources.now l.source-index c.loop-source-test.true in
    let e = ap (λ (e : Entry). length e.body) c.entry.ensures in
    let b = body_short p.old.now (held p.new) (get_or p.sources.now l.source-index New) most_bytes c.requires.old_short c.requires.new_short in
    record { len = omega arith; bound = omega arith }

pub returns : goal.returns
returns c =
    let p = c.args.self in
    let n = length_all (entry_in p) p.sources.now c.loop-source.source-index c.loop-source-test.false in
    omega arith
