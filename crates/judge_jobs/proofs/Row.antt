-- The jobs of a row one after another.
use mathlib.Core.Path.{◌≡◌, sym, ap, ap₂, ◌∙◌}
use mathlib.Core.Bool.{Bool, ◌||◌}
use mathlib.Core.List.{List}
use Prim.Native.Nat.{ℕ, ◌+◌, ◌-◌, ◌*◌, ◌/◌, ◌%◌, ◌≤◌, ◌<◌}
use native.Mathlib.Nat.{div-add-mod'}
use native.Mathlib.Omega.{arith}
use lib.Arith.{digits_div, digits_mod}
use lib.ListN.{length, get_or, take, drop}
use borrow.Rule.Slice.PartMut.{put_mid}
use borrow.Author.Tests.{lt-ltb, le-ltb}
use Rattle.model.proofs.Stop.{frame_room}
use Rattle.sets.specs.Word.{member, put}
use Rattle.sets.proofs.Words.{put_same}
use Rattle.basics.proofs.Overs.{over_on, over_join}
use Rattle.table_row.specs.declared.Row.{Row}
use Rattle.judge_jobs.specs.First.{in_slot, first}
use Rattle.judge_jobs.specs.Passes.{job_map, row_pin, row_map, JobDone, WindowDone, RowDone}
use Rattle.judge_jobs.proofs.Tally.{tally_ext, first_ext}
use Rattle.judge_jobs.proofs.Noticed.{noticed_on, noticed_join}
use Rattle.judge_jobs.proofs.Window.{job_window}

starts : (t s : ℕ) → s % t ≡ 0 → s / t * t ≡ s
starts t s e = omega (arith, div-add-mod' s t)

-- the period that begins with a release in the frame lies in the frame
pub release_fits : (t b h : ℕ) → 0 < t → b < h → b % t ≡ 0 → h % t ≡ 0 → b + t ≤ h
release_fits t b h p l e f = omega (arith, frame_room t b h p l f, starts t b e)

-- the slots of the job that is released in b
slot_of : (t b s : ℕ) → b % t ≡ 0 → b ≤ s → s < b + t → (s % t ≡ s - b) × (s / t * t ≡ b)
slot_of t b s e h l =
    let d : s ≡ b / t * t + (s - b) = omega (arith, starts t b e) in
    let k : s - b < t = omega arith in
    (ap (λ (x : ℕ). x % t) d ∙ digits_mod (b / t) k, ap (λ (x : ℕ). x / t * t) d ∙ ap (λ (x : ℕ). x * t) (digits_div (b / t) k) ∙ starts t b e)

module _ (i : ℕ) (row : Row) (b : ℕ) (D : row.deadline ≤ row.period) (B : b % row.period ≡ 0) {P₀ P A₀ A : List ℕ} {x : Bool}
    (r : RowDone i row b P₀ P A₀ A x) where
  abbrev t : ℕ
  t = row.period

  abbrev c : ℕ
  c = row.execution

  abbrev d : ℕ
  d = row.deadline

  pin_here : (s : ℕ) → b ≤ s → s < b + d → row_pin row (in_slot i P₀) s ≡ first c (in_slot i P) b s
  unfolding row_pin
  pin_here s h l =
      let e = slot_of t b s B h (omega arith) in
      rw (lt-ltb (s % t) d (omega (arith, e.0)), e.1) (first_ext c (in_slot i P₀) (in_slot i P) b s h (λ k j m. sym (ap (member i) (r.pins.high k j))))

  pin_rest : (s : ℕ) → b + d ≤ s → s < b + t → row_pin row (in_slot i P₀) s ≡ in_slot i P₀ s
  unfolding row_pin
  pin_rest s h l = rw (le-ltb (s % t) d (omega (arith, (slot_of t b s B (omega arith) l).0)))

  map_here : (s : ℕ) → b ≤ s → s < b + d → row_map row (in_slot i P₀) (in_slot i A₀) s ≡ job_map c d (in_slot i P) (in_slot i A) b s
  unfolding row_map
  map_here s h l =
      let e = slot_of t b s B h (omega arith) in
      rw (
        lt-ltb (s % t) d (omega (arith, e.0)),
        e.1,
        tally_ext (in_slot i P₀) (in_slot i P) b d (λ k m. sym (ap (member i) (r.pins.high (b + k) (omega arith)))),
        first_ext c (in_slot i P₀) (in_slot i P) b s h (λ k j m. sym (ap (member i) (r.pins.high k j))),
        r.maps.high s h,
      )

  map_rest : (s : ℕ) → b + d ≤ s → s < b + t → row_map row (in_slot i P₀) (in_slot i A₀) s ≡ in_slot i A₀ s
  unfolding row_map
  map_rest s h l = rw (le-ltb (s % t) d (omega (arith, (slot_of t b s B (omega arith) l).0)))

  -- the job that is released in b, after those before it
  pub row_step : {P' A' : List ℕ} {y : Bool}
      → JobDone i c d b P P' A A' y
      → RowDone i row (b + t) P₀ P' A₀ A' (x || y)
  row_step {P'} {A'} {y} q = record {
    pins = over_on (over_join r.pins q.pins (omega arith) (omega arith)
        (λ s h l. ap₂ (λ (z : Bool) (w : ℕ). put i z w) (sym (pin_here s h l)) (r.pins.high s h)))
        (omega arith) (λ s h l. sym (put_same i (get_or P₀ s 0) (pin_rest s h l)));
    maps = over_on (over_join r.maps q.maps (omega arith) (omega arith)
        (λ s h l. ap₂ (λ (z : Bool) (w : ℕ). put i z w) (sym (map_here s h l)) (r.maps.high s h)))
        (omega arith) (λ s h l. sym (put_same i (get_or A₀ s 0) (map_rest s h l)));
    noticed = noticed_on (noticed_join x y r.maps q.maps r.noticed q.noticed (omega arith) (omega arith)) (omega arith);
  }

-- that job, done in its window alone
module _ (i : ℕ) (row : Row) (b h : ℕ) (some : 0 < row.period) (D : row.deadline ≤ row.period) (B : b % row.period ≡ 0) (H : h % row.period ≡ 0)
    (here : b < h) {P₀ P A₀ A : List ℕ} {x : Bool} (r : RowDone i row b P₀ P A₀ A x) (p : h ≤ length P) (a : h ≤ length A) where
  pub row_turn : {k : ℕ} {P' A' : List ℕ} {y : Bool} → k ≡ row.deadline
      → WindowDone i row.execution (take k (drop b P)) P' (take k (drop b A)) A' y
      → RowDone i row (b + row.period) P₀ (put_mid b k P P') A₀ (put_mid b k A A') (x || y)
  row_turn {k} e q =
      let f = release_fits row.period b h some here B H in
      row_step i row b D B r (job_window i row.execution b k P A (omega arith) (omega arith) e q)
