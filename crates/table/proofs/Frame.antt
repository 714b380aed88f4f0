-- The frame is the least common multiple of the periods: each divides it, and it divides every common multiple.
use mathlib.Core.Path.{◌≡◌, refl}
use mathlib.Core.Logic.{⊎_elim}
use Prim.Native.Nat.{ℕ, zero, suc, ◌<◌, ◌∣◌}
use native.Mathlib.Nat.{dvd_trans, one-dvd, eq-or-lt_of_le, le_of_suc-le-suc, not-suc-le-zero}
use native.Mathlib.Omega.{arith}
use Rattle.table_row.specs.Divisor.{multiple}
use Rattle.table_row.proofs.Divisor.{multiple_dvd_left, multiple_dvd_right, multiple_least, multiple_pos}
use Rattle.table.specs.Frame.{frame_of}

module _ (T : ℕ → ℕ) where
  pub frame_zero : frame_of T 0 ≡ 1
  unfolding frame_of
  frame_zero = refl

  pub frame_suc : (n : ℕ) → frame_of T (suc n) ≡ multiple (frame_of T n) (T n)
  unfolding frame_of
  frame_suc n = refl

  pub frame_pos : (n : ℕ) → ((i : ℕ) → i < n → 0 < T i) → 0 < frame_of T n
  unfolding frame_of
  frame_pos zero f = omega arith
  frame_pos (suc n) f = multiple_pos (frame_of T n) (T n) (frame_pos n (λ i h. f i (omega arith))) (f n (omega arith))

  -- every period divides the frame
  pub frame_dvd : (n : ℕ) → ((i : ℕ) → i < n → 0 < T i) → (i : ℕ) → i < n → T i ∣ frame_of T n
  unfolding frame_of
  frame_dvd zero f i h = absurd (not-suc-le-zero h)
  frame_dvd (suc n) f i h =
      ⊎_elim
      (λ e. rw e (multiple_dvd_right (frame_of T n) (T n)))
      (λ l. dvd_trans (T i) (frame_dvd n (λ j g. f j (omega arith)) i l) (multiple_dvd_left (frame_of T n) (T n) (frame_pos n (λ j g. f j (omega arith)))))
      (eq-or-lt_of_le (le_of_suc-le-suc h))

  -- and what every period divides, the frame divides
  pub frame_least : (n c : ℕ) → ((i : ℕ) → i < n → 0 < T i) → ((i : ℕ) → i < n → T i ∣ c) → frame_of T n ∣ c
  unfolding frame_of
  frame_least zero c f g = one-dvd c
  frame_least (suc n) c f g =
      multiple_least (frame_of T n) (T n) c (frame_pos n (λ j h. f j (omega arith)))
      (frame_least n c (λ j h. f j (omega arith)) (λ j h. g j (omega arith))) (g n (omega arith))
