-- Clearing a row's bits from the end of a window until c are left keeps the first c.
use mathlib.Core.Path.{◌≡◌, sym, ap}
use mathlib.Core.Bool.{Bool, false}
use mathlib.Core.List.{List}
use Prim.Native.Nat.{ℕ, ◌≤◌}
use native.Mathlib.Omega.{arith}
use lib.ListN.{get_or}
use Rattle.sets.specs.Word.{put}
use Rattle.sets.proofs.Words.{put_same}
use Rattle.basics.specs.Over.{Over}
use Rattle.basics.proofs.Overs.{over_none, over_on, over_join}
use Rattle.judge_jobs.specs.First.{in_slot, tally, first}
use Rattle.judge_jobs.specs.Passes.{putting}
use Rattle.judge_jobs.proofs.Tally.{first_low, first_high}

-- c slots with the row are left before o, and none from there on
pub trimmed : (i c len o : ℕ) {l l' : List ℕ} → o ≤ len → tally (in_slot i l) 0 o ≡ c
    → Over (putting i (λ s. false) l) o len l l' → Over (putting i (first c (in_slot i l) 0) l) 0 len l l'
trimmed i c len o {l} h e r =
    over_join
    (over_on (over_none (putting i (first c (in_slot i l) 0) l) 0 l) (omega arith)
    (λ s j k. sym (put_same i (get_or l s 0) (first_low c (in_slot i l) 0 o e s j (omega arith)))))
    r (omega arith) h
    (λ s j k. ap (λ (b : Bool). put i b (get_or l s 0)) (sym (first_high c (in_slot i l) 0 o e s (omega arith))))
