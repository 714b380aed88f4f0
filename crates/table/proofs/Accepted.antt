-- What the check tells of a table: every field in its range and the frame, or a refusal and no frame.
use mathlib.Core.Path.{◌≡◌, refl, sym, ap}
use mathlib.Core.Bool.{Bool, true, false, cond}
use mathlib.Core.Logic.{◌⊎◌, inl, inr, ⊎_elim}
use Prim.Native.Nat.{ℕ, zero, suc, ◌%◌, ◌≤◌, ◌<◌, ◌∣◌}
use native.Mathlib.Nat.{mod-eq-zero_of_dvd, pos_of_ne-zero}
use native.Mathlib.Omega.{arith}
use lib.Dec.{ltb}
use borrow.Author.Tests.{ltb-true, ltb-false, eqb-false, not-true}
use Rattle.model.specs.Model.{Sound, Frame}
use Rattle.table_row.specs.declared.Row.{Row}
use Rattle.table.specs.declared.Table.{Table}
use Rattle.basics.specs.Least.{least}
use Rattle.table.specs.Frame.{frame_of, over_at}
use Rattle.table.specs.Rows.{row_at, beside_of}
use Rattle.table_row.specs.Row.{row_refusal, faulty}
use Rattle.table.specs.Check.{Numbers, framed, refused_by, refused, check_frame, check_each, check_rows, check_of}
use Rattle.refusal.specs.Refusal.{Numbered, none}
use Rattle.basics.specs.Range.{inside}
use Rattle.table.specs.Meaning.{model_of, Accepted}
use Rattle.basics.proofs.Least.{least_below, least_here}
use Rattle.table.proofs.Frame.{frame_pos, frame_dvd, frame_least}
use Rattle.table_row.proofs.Ranges.{InOrder, rows_in_order}
use Rattle.basics.proofs.Range.{inside_true}
use Rattle.table_row.specs.Limits.{most_processors, most_depths, most_rows, most_slots}
use Rattle.table.specs.declared.Beside.{Beside}
use Rattle.basics.proofs.Range.{inside_true}

-- a refusal: it has a number, and no frame
pub record Rejected (a : Numbers) : Type 0 where
  pub number : 0 < a.refusal.no
  pub entry : a.refusal.entry ≡ 0
  pub frame : a.frame ≡ 0

reject : (k i : ℕ) → 0 < k → Rejected (refused k i)
reject k i h = record { number = h; entry = refl; frame = refl }

faulty_number : (r : Row) → faulty r ≡ true → 0 < row_refusal r
unfolding faulty
faulty_number r e = pos_of_ne-zero (eqb-false _ _ (not-true _ e))

-- n rows in order whose multiple stays at most the longest frame
pub record Framed (n : ℕ) (row : ℕ → Row) (a : Numbers) : Type 0 where
  pub fine : a.refusal ≡ none
  pub order : (i : ℕ) → i < n → InOrder (row i)
  pub frame : a.frame ≡ frame_of (λ i. (row i).period) n
  pub frame_low : 1 ≤ a.frame
  pub frame_high : a.frame ≤ most_slots

module _ (n : ℕ) (row : ℕ → Row) where
  small : 0 < n → n ≤ over_at (λ i. (row i).period) n → frame_of (λ i. (row i).period) n ≤ most_slots
  unfolding over_at
  small l g = go n l g
    where
      go : (k : ℕ) → 0 < k → k ≤ least (λ i. ltb most_slots (frame_of (λ i. (row i).period) (suc i))) k → frame_of (λ i. (row i).period) k ≤ most_slots
      go zero l g = absurd (omega arith)
      go (suc k) l g = ltb-false _ _ (least_below (λ i. ltb most_slots (frame_of (λ i. (row i).period) (suc i))) (suc k) k (omega arith))

  frame_outcome : 0 < n → ((i : ℕ) → i < n → InOrder (row i)) → Framed n row (check_frame n row) ⊎ Rejected (check_frame n row)
  unfolding check_frame
  frame_outcome l order = go (ltb (over_at (λ i. (row i).period) n) n) refl
    where
      go : (b : Bool) → ltb (over_at (λ i. (row i).period) n) n ≡ b
          → let a = cond b (refused 7 (over_at (λ i. (row i).period) n)) (framed (frame_of (λ i. (row i).period) n)) in Framed n row a ⊎ Rejected a
      go true e = inr (reject 7 _ (omega arith))
      go false e = inl (record {
        fine = refl;
        order = order;
        frame = refl;
        frame_low = frame_pos (λ i. (row i).period) n (λ i h. (order i h).period_low);
        frame_high = small l (ltb-false _ _ e);
      })

  each_outcome : 0 < n → Framed n row (check_each n row) ⊎ Rejected (check_each n row)
  unfolding check_each
  each_outcome l = go (ltb (least (λ i. faulty (row i)) n) n) refl
    where
      first : ℕ
      first = least (λ i. faulty (row i)) n

      go : (b : Bool) → ltb first n ≡ b → let a = cond b (refused (row_refusal (row first)) first) (check_frame n row) in Framed n row a ⊎ Rejected a
      go true e = inr (reject _ first (faulty_number (row first) (least_here (λ i. faulty (row i)) n (ltb-true _ _ e))))
      go false e = frame_outcome l (rows_in_order n row (ltb-false _ _ e))

-- m, x and the count in their ranges, and the rows as above
pub record Fine (b : Beside) (n : ℕ) (row : ℕ → Row) (a : Numbers) : Type 0 where
  pub m_range : (1 ≤ b.processors) × (b.processors ≤ most_processors)
  pub x_range : (1 ≤ b.depth) × (b.depth ≤ most_depths)
  pub count_range : (1 ≤ n) × (n ≤ most_rows)
  pub rows : Framed n row a

pub rows_outcome : (b : Beside) (n : ℕ) (row : ℕ → Row) → Fine b n row (check_rows b n row) ⊎ Rejected (check_rows b n row)
unfolding check_rows
rows_outcome b n row = go (inside 1 b.processors most_processors) (inside 1 b.depth most_depths) (inside 1 n most_rows) refl refl refl
  where
    go : (p q r : Bool) → inside 1 b.processors most_processors ≡ p → inside 1 b.depth most_depths ≡ q → inside 1 n most_rows ≡ r
        → let a = cond p (cond q (cond r (check_each n row) (refused 3 0)) (refused 2 0)) (refused 1 0) in Fine b n row a ⊎ Rejected a
    go true true true ep eq er =
        let c = inside_true _ _ _ er in
        ⊎_elim (λ f. inl (record { m_range = inside_true _ _ _ ep; x_range = inside_true _ _ _ eq; count_range = c; rows = f })) inr (each_outcome n row c.0)
    go true true false ep eq er = inr (reject 3 0 (omega arith))
    go true false r ep eq er = inr (reject 2 0 (omega arith))
    go false q r ep eq er = inr (reject 1 0 (omega arith))

-- every table is accepted with a frame, or refused
pub outcome : (t : Table) → (Accepted t (check_of t).frame × ((check_of t).refusal ≡ none)) ⊎ Rejected (check_of t)
unfolding check_of
outcome t = ⊎_elim (λ f. inl (fine f, f.rows.fine)) inr (rows_outcome (beside_of t) t.count (row_at t))
  where
    fine : Fine (beside_of t) t.count (row_at t) (check_of t) → Accepted t (check_of t).frame
    fine f = record {
      m_low = f.m_range.0;
      m_high = f.m_range.1;
      x_low = f.x_range.0;
      x_high = f.x_range.1;
      count_low = f.count_range.0;
      count_high = f.count_range.1;
      period_high = λ i h. (f.rows.order i h).period_high;
      apart = λ i h. (f.rows.order i h).deadline_high;
      room = λ i h. (f.rows.order i h).execution_high;
      some = λ i h. (f.rows.order i h).execution_low;
      frame = f.rows.frame;
      frame_low = f.rows.frame_low;
      frame_high = f.rows.frame_high;
    }

-- a table with no refusal is accepted
pub accepted : (t : Table) → (check_of t).refusal.no ≡ 0 → Accepted t (check_of t).frame
accepted t e = ⊎_elim (λ f. f.0) (λ r. absurd (omega (arith, r.number))) (outcome t)

pub accepted_frame : (t : Table) (h : ℕ) → framed h ≡ check_of t → Accepted t h
accepted_frame t h e = rw (ap (λ (a : Numbers). a.frame) e) (accepted t (sym (ap (λ (a : Numbers). a.refusal.no) e)))

-- an answer with a refusal in it: the table has that refusal, and its number is not 0
pub rejected : (t : Table) (r : Numbered) → refused_by r ≡ check_of t → Rejected (check_of t)
rejected t r e = ⊎_elim (λ f. absurd (omega (arith, f.0.frame_low, ap (λ (a : Numbers). a.frame) e))) (λ q. q) (outcome t)

-- the model of an accepted table is sound, and its frame is a frame: every period divides it
module _ (t : Table) (h : ℕ) (a : Accepted t h) where
  pub sound_model : Sound (model_of t)
  sound_model = record { some = a.some; room = a.room; apart = a.apart }

  positive : (i : ℕ) → i < t.count → 0 < (row_at t i).period
  positive i k = omega (arith, a.some i k, a.room i k, a.apart i k)

  pub divides : (i : ℕ) → i < t.count → (row_at t i).period ∣ h
  divides i k = rw a.frame (frame_dvd (λ i. (row_at t i).period) t.count positive i k)

  pub frame_model : Frame (model_of t) h
  frame_model = record { some = a.frame_low; whole = divides; again = λ s. refl }

  pub divides_mod : (i : ℕ) → i < t.count → h % (row_at t i).period ≡ 0
  divides_mod i k = mod-eq-zero_of_dvd (row_at t i).period (divides i k)

  -- "The frame H is the least common multiple of the periods": it divides every common multiple
  pub frame_least_multiple : (c : ℕ) → ((i : ℕ) → i < t.count → (row_at t i).period ∣ c) → h ∣ c
  frame_least_multiple c f = rw a.frame (frame_least (λ i. (row_at t i).period) t.count c positive f)
