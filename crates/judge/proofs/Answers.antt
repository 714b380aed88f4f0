-- How the code comes to each answer of the judge.
use mathlib.Core.Path.{◌≡◌, refl, ◌∙◌}
use mathlib.Core.Bool.{false}
use mathlib.Core.List.{List}
use Prim.Native.Nat.{ℕ}
use native.Mathlib.Omega.{arith}
use lib.Dec.{eqb}
use lib.ListN.{length}
use borrow.Author.Tests.{ne_eqb}
use Rattle.basics.proofs.Tabled.{over_filled}
use Rattle.table.specs.declared.Table.{Table}
use Rattle.refusal.specs.declared.Refusal.{Refusal}
use Rattle.refusal.specs.Refusal.{Numbered}
use Rattle.refusal.specs.Told.{told}
use Rattle.std.specs.Prelude.{Option, Some, None, is_some, Ok, Err}
use Rattle.table.specs.Check.{framed, refused_by}
use Rattle.table.specs.Meaning.{model_of}
use Rattle.judge_deepen.specs.Reached.{Reached}
use Rattle.judge_scan.specs.declared.Line.{Line}
use Rattle.judge_scan.specs.Lines.{line_or_zeros}
use Rattle.judge_admit.specs.Admit.{admit_of}
use Rattle.judge.specs.After.{map_after, pins_after}
use Rattle.judge.specs.Judge.{given, numbers, infeasible, judge_of, Judged}
use Rattle.judge.specs.Passes.{verdict_of, Lined}
use Rattle.judge_admit.proofs.Admitted.{admitted, admit_rejected}

module _ (t : Table) (x : ℕ) (map pins : List ℕ) where
  -- a refusal leaves both lists as they were
  module _ (r : Numbered) (e : refused_by r ≡ admit_of t (length map) (length pins)) where
    pub refuses : eqb r.no 0 ≡ false
    refuses = ne_eqb r.no 0 (λ (z : r.no ≡ 0). omega (arith, admit_rejected t (length map) (length pins) r e))

    pub map_kept : map ≡ map_after t x map pins
    unfolding map_after
    map_kept = rw (← e, refuses)

    pub pins_kept : pins ≡ pins_after t x map pins
    unfolding pins_after
    pins_kept = rw (← e, refuses)

  -- lists that reached depth x are as they are to be left
  module _ (h : ℕ) (e : framed h ≡ admit_of t (length map) (length pins)) {map' pins' : List ℕ} where
    pub map_reached : Reached (model_of t) x h map pins map' pins' → map' ≡ map_after t x map pins
    unfolding map_after
    map_reached q = rw (← e) (over_filled _ h map map' q.available_sets (admitted t (length map) (length pins) h e).map_room)

    pub pins_reached : Reached (model_of t) x h map pins map' pins' → pins' ≡ pins_after t x map pins
    unfolding pins_after
    pins_reached q = rw (← e) (over_filled _ h pins pins' q.pinned_sets (admitted t (length map) (length pins) h e).pins_room)

-- a verdict has the numbers of its line
verdict_numbers : (l : Option Line) (h : ℕ) → numbers (Ok (verdict_of l h)) ≡ given (line_or_zeros l) h
verdict_numbers None h = refl
verdict_numbers (Some l) h = refl

verdict_case : (l : Option Line) (h : ℕ) → infeasible (Ok (verdict_of l h)) ≡ is_some l
verdict_case None h = refl
verdict_case (Some l) h = refl

pub judged_refused : (t : Table) (map pins : List ℕ) (r : Refusal) → refused_by (told r) ≡ admit_of t (length map) (length pins)
    → Judged t map pins map pins (Err r)
unfolding judge_of
judged_refused t map pins r e = record {
  answer = rw (← e, refuses t t.depth map pins (told r) e);
  case = refl;
  map_is = map_kept t t.depth map pins (told r) e;
  pins_is = pins_kept t t.depth map pins (told r) e;
}

pub judged_given : (t : Table) (map pins map' pins' : List ℕ) (h : ℕ) (l : Option Line) → framed h ≡ admit_of t (length map) (length pins)
    → Lined t h map pins map' pins' l → Judged t map pins map' pins' (Ok (verdict_of l h))
unfolding judge_of
judged_given t map pins map' pins' h l e q = record {
  answer = verdict_numbers l h ∙ rw (← e, q.line.numbers);
  case = verdict_case l h ∙ q.line.some ∙ rw (verdict_numbers l h, q.line.numbers);
  map_is = map_reached t t.depth map pins h e q.reached;
  pins_is = pins_reached t t.depth map pins h e q.reached;
}
