-- Each function has one outcome for each input: the output at exit and the place that it tells.
use mathlib.Core.Path.{◌≡◌}
use mathlib.Core.List.{List}
use Prim.Native.Nat.{ℕ}
use Rattle.basics.proofs.Determined.{by_equation}
use Rattle.text_decimal.specs.declared.Output.{Output}
use Rattle.text_decimal.specs.Put.{Put, PutIn}

pub determined : (o : List ℕ) (at : ℕ) (text o₁ o₂ : List ℕ) (r q : ℕ) → Put o at text o₁ r → Put o at text o₂ q → (o₁ ≡ o₂) × (r ≡ q)
determined o at text o₁ o₂ r q f g = (by_equation f.output g.output, by_equation f.place g.place)

-- and so have the methods of an output: its bytes and its place
pub put_in_determined : (o : Output) (text : List ℕ) (p q : Output) → PutIn o text p → PutIn o text q → (p.bytes.now ≡ q.bytes.now) × (p.at ≡ q.at)
put_in_determined o text p q f g = determined o.bytes.now o.at text p.bytes.now q.bytes.now p.at q.at f.put g.put
