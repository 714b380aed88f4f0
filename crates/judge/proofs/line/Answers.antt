-- The first map, the depths, and the scan, each from what the one before left.
use native.Mathlib.Omega.{arith}
use Rattle.basics.proofs.Overs.{holds_of, over_then}
use Rattle.judge.proofs.line.Goals as goal

pub deep-requires : goal.deep-requires
deep-requires c = record { room = (omega arith, omega arith); holds = holds_of c.first_map.ensures c.requires.0 }

pub returns : goal.returns
returns c =
    let first = c.first_map.ensures in
    let deep = c.deep.ensures in
    record {
      reached = record { available_sets = over_then first deep.available_sets; pinned_sets = deep.pinned_sets };
      line = c.scan.ensures _ (holds_of deep.available_sets (omega arith));
    }
