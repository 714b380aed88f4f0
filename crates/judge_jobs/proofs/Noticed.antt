-- Whether a list changed, slot by slot and pass by pass.
use mathlib.Core.Path.{refl, sym, ◌∙◌}
use mathlib.Core.Bool.{Bool, true, false, ◌||◌, true≢false, false≢true}
use mathlib.Core.List.{List}
use Prim.Native.Nat.{ℕ, ◌≤◌}
use native.Mathlib.Omega.{arith}
use Rattle.basics.specs.Over.{Over}
use Rattle.judge_jobs.specs.Passes.{Noticed}

pub noticed_none : (a : ℕ) (l : List ℕ) → Noticed a a l l false
noticed_none a l = record { still = λ e. record { at = λ s. refl }; moved = λ e. absurd (false≢true e) }

-- a wider range
pub noticed_on : {a b c : ℕ} {x y : List ℕ} {p : Bool} → Noticed a b x y p → b ≤ c → Noticed a c x y p
noticed_on r l = record {
  still = r.still;
  moved = λ e. let m = r.moved e in record { slot = m.slot; from = m.from; to = omega (arith, m.to); other = m.other };
}

-- two passes whose ranges meet
pub noticed_join : {f g : ℕ → ℕ} {a b c : ℕ} {x y z : List ℕ} (p q : Bool) → Over f a b x y → Over g b c y z → Noticed a b x y p → Noticed b c y z q
    → a ≤ b → b ≤ c → Noticed a c x z (p || q)
noticed_join true q u v r t k l = record {
  still = λ e. absurd (true≢false e);
  moved = λ e.
      let m = r.moved refl in
      record { slot = m.slot; from = m.from; to = omega (arith, m.to); other = λ w. m.other (sym (v.low m.slot m.to) ∙ w) };
}
noticed_join false q u v r t k l = record {
  still = λ e. record { at = λ s. (t.still e).at s ∙ (r.still refl).at s };
  moved = λ e.
      let m = t.moved e in
      record { slot = m.slot; from = omega (arith, m.from); to = m.to; other = λ w. m.other (w ∙ sym (u.high m.slot m.from)) };
}
