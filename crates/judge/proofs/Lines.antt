-- A line: its length is the least failing length, and where that is none it is three zeros.
use mathlib.Core.Path.{◌≡◌, refl, sym}
use mathlib.Core.Bool.{Bool, true, false, cond}
use Prim.Native.Nat.{ℕ, ◌<◌}
use native.Mathlib.Omega.{arith}
use lib.Dec.{eqb}
use borrow.Author.Tests.{eqb-true, ne_eqb}
use Rattle.model.specs.Model.{Model, Map}
use Rattle.model.specs.Supply.{supply}
use Rattle.model.specs.Work.{work_due}
use Rattle.model.specs.Failing.{least_failing}
use Rattle.judge_scan.specs.Lines.{no_line, line_of}

module _ (M : Model) (A : Map) (h : ℕ) where
  pub line_t : (line_of M A h).t ≡ least_failing M A h
  unfolding line_of
  line_t = go (eqb (least_failing M A h) 0) refl
    where
      go : (b : Bool) → eqb (least_failing M A h) 0 ≡ b
          → (cond b no_line (record { t = least_failing M A h; work = work_due M (least_failing M A h); supply = supply M A (least_failing M A h) })).t ≡ least_failing M A h
      go true e = sym (eqb-true _ _ e)
      go false e = refl

  pub line_some : 0 < (line_of M A h).t → ((line_of M A h).work ≡ work_due M (least_failing M A h)) × ((line_of M A h).supply ≡ supply M A (least_failing M A h))
  unfolding line_of
  line_some l =
      let n : least_failing M A h ≡ 0 → ⊥ = λ z. omega (arith, line_t) in
      rw (ne_eqb (least_failing M A h) 0 n) (refl, refl)
