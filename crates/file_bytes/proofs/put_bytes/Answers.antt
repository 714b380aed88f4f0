-- The first k bytes of the source are written over the output; where they do not all fit nothing is written.
use Rattle.std.proofs.Common.{◌+◌, take, sym, refl, ◌∙◌, add-one, arith, length-set, length-take-le, take-suc, leb-true}
use Rattle.file_bytes.proofs.Overs.{over_none, over_byte}
use Rattle.file_bytes.proofs.put_bytes.Goals as goal

pub loop-k-init : goal.loop-k-init
loop-k-init c = record {
  room = leb-true _ _ (sym c.has_room.ensures ∙ c.if-has_room.true);
  long = refl;
  written = let h = leb-true _ _ (sym c.has_room.ensures ∙ c.if-has_room.true) in sym (over_none _ _ (omega arith));
}

pub loop-k-preserved : goal.loop-k-preserved
loop-k-preserved c =
    let l = c.loop-k in
    let a = c.args in
    let n = length-take-le l.k a.src.now (omega arith) in
    record {
      room = l.invariant.room;
      long = simp length-set l.invariant.long;
      written =
          rw (l.invariant.written, add-one, take-suc a.src.now l.k 0 c.loop-k-test.true)
          (over_byte a.out.now a.at (take l.k a.src.now) (a.at + l.k) _ (omega arith) (omega arith));
    }
