-- For the passes alone: the running sums of two lists, and the least length at which the first is the greater.
use Rattle.std.specs.Prelude.{◌≡◌, List, ℕ, ◌≤◌, ◌<◌, get_or}
use Rattle.basics.specs.Sum.{sum}
use Rattle.judge_scan.specs.declared.Line.{Line}

-- the sum of the first t numbers of a list
abbrev pub total : List ℕ → ℕ → ℕ
total l t = sum t (λ s. get_or l s 0)

-- none of the first h numbers is over b
pub record Low (b h : ℕ) (l : List ℕ) : Type 0 where
  pub at : (s : ℕ) → s < h → get_or l s 0 ≤ b

-- r has the least length up to h at which more is due than usable, and both sums
pub record FailsAt (dues usables : List ℕ) (h : ℕ) (r : Line) : Type 0 where
  pub from : 1 ≤ r.t
  pub to : r.t ≤ h
  pub works : r.work ≡ total dues r.t
  pub supplies : r.supply ≡ total usables r.t
  pub here : r.supply < r.work
  pub before : (s : ℕ) → s < r.t → total dues s ≤ total usables s

-- there is no such length
pub record FailsNowhere (dues usables : List ℕ) (h : ℕ) : Type 0 where
  pub all : (s : ℕ) → s ≤ h → total dues s ≤ total usables s
