-- How the code comes to each answer of the check.
use mathlib.Core.Path.{◌≡◌}
use mathlib.Core.Bool.{true, false}
use Prim.Native.Nat.{ℕ, suc, ◌≤◌, ◌<◌}
use native.Mathlib.Nat.{le_refl}
use native.Mathlib.Omega.{arith}
use lib.Dec.{ltb}
use borrow.Author.Tests.{lt-ltb, le-ltb}
use Rattle.table_row.specs.declared.Row.{Row}
use Rattle.table.specs.declared.Beside.{Beside}
use Rattle.table_row.specs.Limits.{most_processors, most_depths, most_rows, most_slots}
use Rattle.basics.specs.Least.{least}
use Rattle.table.specs.Frame.{frame_of, over_at}
use Rattle.table_row.specs.Row.{row_refusal, faulty}
use Rattle.table.specs.Check.{Numbers, framed, refused, check_frame, check_each, check_rows}
use Rattle.basics.specs.Range.{inside}
use Rattle.table.specs.Seen.{ranges}
use Rattle.basics.proofs.Least.{least_found, least_none}

-- the multiple of the first i rows and of each fewer is within the longest frame
abbrev pub Small : (ℕ → Row) → ℕ → Type 0
Small row i = (k : ℕ) → k < i → ltb most_slots (frame_of (λ j. (row j).period) (suc k)) ≡ false

module _ (n : ℕ) (row : ℕ → Row) where
  pub frame_over : (i : ℕ) → Small row i → most_slots < frame_of (λ j. (row j).period) (suc i) → i < n → refused 7 i ≡ check_frame n row
  unfolding over_at check_frame
  frame_over i f g h =
      let e : i ≡ over_at (λ j. (row j).period) n = least_found _ n i f (lt-ltb _ _ g) h in
      rw (← e, lt-ltb i n h)

  pub frame_whole : (i h : ℕ) → i ≡ n → Small row i → h ≡ frame_of (λ j. (row j).period) i → framed h ≡ check_frame n row
  unfolding over_at check_frame
  frame_whole i h p f q =
      let e : n ≡ over_at (λ j. (row j).period) n = least_none _ n (λ k l. f k (omega arith)) in
      rw (← e, le-ltb n n (le_refl n), q, p)

  pub each_faulty : (b f : ℕ) → b ≡ least (λ i. faulty (row i)) n → b < n → f ≡ row_refusal (row b) → refused f b ≡ check_each n row
  unfolding check_each
  each_faulty b f p h e = rw (← p, lt-ltb b n h, e)

  pub each_fine : (b : ℕ) → b ≡ least (λ i. faulty (row i)) n → n ≤ b → check_frame n row ≡ check_each n row
  unfolding check_each
  each_fine b p h = rw (← p, le-ltb b n h)

module _ (a : Beside) (n : ℕ) (each : Numbers) where
  pub range_count : inside 1 a.processors most_processors ≡ true → inside 1 a.depth most_depths ≡ true → inside 1 n most_rows ≡ false → refused 3 0 ≡ ranges a n each
  unfolding ranges
  range_count p q r = rw (p, q, r)

  pub ranges_fine : inside 1 a.processors most_processors ≡ true → inside 1 a.depth most_depths ≡ true → inside 1 n most_rows ≡ true → each ≡ ranges a n each
  unfolding ranges
  ranges_fine p q r = rw (p, q, r)

module _ (a : Beside) (n : ℕ) (row : ℕ → Row) where
  pub rows_count : inside 1 a.processors most_processors ≡ true → inside 1 a.depth most_depths ≡ true → inside 1 n most_rows ≡ false → refused 3 0 ≡ check_rows a n row
  unfolding check_rows ranges
  rows_count = range_count a n (check_each n row)

  pub rows_each : inside 1 a.processors most_processors ≡ true → inside 1 a.depth most_depths ≡ true → inside 1 n most_rows ≡ true → check_each n row ≡ check_rows a n row
  unfolding check_rows ranges
  rows_each = ranges_fine a n (check_each n row)
