-- How the code comes to each answer of the ladder.
use mathlib.Core.Path.{◌≡◌, ap, ◌∙◌}
use mathlib.Core.List.{List, map as each}
use Prim.Native.Nat.{ℕ}
use lib.ListN.{length}
use Rattle.std.specs.Prelude.{Ok, Err}
use Rattle.table.specs.declared.Table.{Table}
use Rattle.refusal.specs.declared.Refusal.{Refusal}
use Rattle.refusal.specs.Refusal.{none}
use Rattle.refusal.specs.Told.{told}
use Rattle.table.specs.Check.{framed, refused_by}
use Rattle.table.specs.Meaning.{model_of}
use Rattle.judge_scan.specs.declared.Line.{Line}
use Rattle.judge_admit.specs.Admit.{admit_of}
use Rattle.judge.proofs.Answers.{refuses, map_kept, pins_kept, map_reached, pins_reached}
use Rattle.judge_ladder.specs.Ladder.{no_lines, ladder_of, Laddered}
use Rattle.judge_climb.specs.Core.{to_line, Climbed}
use Rattle.judge_climb.proofs.Squares.{lines_told}
use Rattle.table_row.specs.Limits.{most_depths}

pub laddered_refused : (t : Table) (map pins : List ℕ) (r : Refusal) → refused_by (told r) ≡ admit_of t (length map) (length pins)
    → Laddered t map pins map pins (record { refusal = Err r; lines = no_lines })
unfolding ladder_of
laddered_refused t map pins r e = record {
  answer = rw (← e, refuses t most_depths map pins (told r) e);
  map_is = map_kept t most_depths map pins (told r) e;
  pins_is = pins_kept t most_depths map pins (told r) e;
}

pub laddered_given : (t : Table) (map pins map' pins' : List ℕ) (h : ℕ) (q : List (List ℕ)) → framed h ≡ admit_of t (length map) (length pins)
    → Climbed t h map pins map' pins' q → Laddered t map pins map' pins' (record { refusal = Ok tt; lines = each to_line q })
unfolding ladder_of
laddered_given t map pins map' pins' h q e c = record {
  answer = ap (λ (l : List Line). record { refusal = none; lines = l }) (ap (each to_line) c.square ∙ lines_told (model_of t) h) ∙ rw (← e);
  map_is = map_reached t most_depths map pins h e c.reached;
  pins_is = pins_reached t most_depths map pins h e c.reached;
}
