-- Refusals in an order: the first that applies is the answer.
use Rattle.std.specs.Prelude.{cond, ℕ, zero, suc, eqb}
use Rattle.refusal.specs.Refusal.{Numbered, none}

-- r where it is a refusal, else what comes next
unfoldable pub first : Numbered → Numbered → Numbered
first r next = cond (eqb r.no 0) next r

-- "each entry in turn": the first refusal of the entries 0 to n - 1
unfoldable pub in_turn : (ℕ → Numbered) → ℕ → Numbered
in_turn f zero = none
in_turn f (suc n) = first (in_turn f n) (first (f n) none)
