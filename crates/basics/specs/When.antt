-- Cases in an order: the first whose test decides is the answer.
use Rattle.std.specs.Prelude.{Bool, cond}

-- a where the test passes, else what comes next
unfoldable pub when : {A : Type 0} → Bool → A → A → A
when test a next = cond test a next

-- a where the test fails, else what comes next
unfoldable pub unless : {A : Type 0} → Bool → A → A → A
unless test a next = cond test next a
