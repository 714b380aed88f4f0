-- Maps that one list holds have the same line.
use mathlib.Core.Path.{◌≡◌, sym, ap, ◌∙◌}
use mathlib.Core.Logic.{⊎_elim}
use mathlib.Core.List.{List}
use Prim.Native.Nat.{ℕ, ◌%◌, ◌≤◌, ◌<◌}
use native.Mathlib.Omega.{arith}
use Rattle.model.specs.Model.{Model, Sound, Map}
use Rattle.model.specs.Supply.{supply}
use Rattle.model.specs.Failing.{least_failing}
use Rattle.model.proofs.Stop.{Agree, supply_same}
use Rattle.model.proofs.Least.{least_is, least_same}
use Rattle.sets.specs.Word.{member, words}
use Rattle.sets.proofs.Words.{member_word}
use Rattle.basics.specs.Over.{Holds}
use Rattle.judge_scan.specs.Lines.{line_of}

least_within : (M : Model) (A : Map) (h : ℕ) → least_failing M A h ≤ h
least_within M A h = ⊎_elim (λ r. r.to) (λ r. omega (arith, r.0)) (least_is M A h)

module _ (M : Model) (G : Sound M) (h : ℕ) (W : (i : ℕ) → i < M.rows → h % M.period i ≡ 0) (A B : Map) where
  -- a word tells each row
  agree : {l : List ℕ} → Holds (words M A) h l → Holds (words M B) h l → Agree M h A B
  agree p q s i g k =
      sym (member_word M.rows i (A s) k) ∙ ap (member i) (sym (p.at s g) ∙ q.at s g) ∙ member_word M.rows i (B s) k

  pub line_same : {l : List ℕ} → Holds (words M A) h l → Holds (words M B) h l → line_of M A h ≡ line_of M B h
  unfolding line_of
  line_same p q =
      let e : (t : ℕ) → t ≤ h → supply M A t ≡ supply M B t = supply_same M G h W A B (agree p q) in
      rw (least_same M A B h e, e (least_failing M B h) (least_within M B h))
