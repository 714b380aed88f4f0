-- The entries of the sources so far are written, and the next body starts at the place.
use Rattle.std.proofs.Common.{[], sym, ◌∙◌, arith}
use Rattle.file_bytes.proofs.Overs.{over_none, length_over}
use Rattle.file_entries.specs.Limits.{head_bytes}
use Rattle.file_contents.specs.File.{heads_of, bodies_of}
use Rattle.file_write.specs.Sources.{entry_in}
use Rattle.file_write.proofs.Turns.{starts, length_next, fits, turn, whole}
use Rattle.file_write.proofs.Parts.write_file.Goals as goal

pub loop-j-init : goal.loop-j-init
unfolding heads_of bodies_of
loop-j-init c =
    let p = c.args.self in
    let e = c.after_entries-start.ensures.same in
    let o = c.put16-2.new.out in
    let r = starts (entry_in p) p.sources.now in
    let n = over_none o head_bytes (omega arith) in
    record { start = omega arith; out = sym (over_none _ _ (omega (arith, length_over o head_bytes [])) ∙ n) }

pub write_entry-start-requires : goal.write_entry-start-requires
write_entry-start-requires c =
    let p = c.args.self in
    let l = c.loop-j in
    let f = fits (entry_in p) p.sources.now l.j c.loop-j-test.true in
    record { head = omega arith; short = omega arith; room = omega arith }

pub loop-j-preserved : goal.loop-j-preserved
loop-j-preserved c =
    let p = c.args.self in
    let l = c.loop-j in
    let o = c.write_entry-start.ensures in
    record {
      start = let n = length_next (entry_in p) p.sources.now l.j c.loop-j-test.true in let e = o.next in let i = l.invariant.start in omega arith;
      out = turn (entry_in p) p.sources.now l.j c.loop-j-test.true l.start l.invariant.start _ l.out _ (omega arith) l.invariant.out o.written;
    }

pub returns : goal.returns
returns c =
    let p = c.args.self in
    whole (entry_in p) p.sources.now c.loop-j.j (omega arith) _ _ _ _ c.requires.room c.put16.ensures c.put16-2.ensures c.loop-j.invariant.out
