-- What a job leaves in both lists, whether it has C slots or fewer.
use mathlib.Core.Path.{◌≡◌, sym, ap, ◌∙◌}
use mathlib.Core.Bool.{Bool, false}
use mathlib.Core.List.{List}
use Prim.Native.Nat.{ℕ, ◌≤◌, ◌<◌}
use native.Mathlib.Omega.{arith}
use lib.ListN.{length, get_or}
use borrow.Author.Tests.{le-leb, lt-leb}
use Rattle.sets.specs.Word.{member, put}
use Rattle.sets.proofs.Words.{put_same, member_put}
use Rattle.basics.specs.Over.{Over}
use Rattle.basics.proofs.Overs.{over_none, over_on, over_ext}
use Rattle.judge_jobs.specs.First.{in_slot, tally, first}
use Rattle.judge_jobs.specs.Passes.{putting, job_map, Noticed, WindowDone}
use Rattle.judge_jobs.proofs.Tally.{first_few}
use Rattle.judge_jobs.proofs.Noticed.{noticed_none, noticed_on}

module _ (i c : ℕ) (P A : List ℕ) where
  -- fewer than c slots: both lists stay
  pub job_open : tally (in_slot i P) 0 (length P) < c → WindowDone i c P P A A false
  job_open l = record {
    pins = over_on (over_none (putting i (first c (in_slot i P) 0) P) 0 P) (omega arith)
        (λ s h k. sym (put_same i (get_or P s 0) (first_few c (in_slot i P) 0 (length P) s l h (omega arith))));
    maps = over_on (over_none (putting i (job_map c (length P) (in_slot i P) (in_slot i A) 0) A) 0 A) (omega arith)
        (λ s h k. sym (put_same i (get_or A s 0) (loose s)));
    noticed = noticed_on (noticed_none 0 A) (omega arith);
  }
    where
      loose : (s : ℕ) → job_map c (length P) (in_slot i P) (in_slot i A) 0 s ≡ in_slot i A s
      loose s = rw (lt-leb c (tally (in_slot i P) 0 (length P)) l)

  -- c or more: the pins keep the first c, and the map those alone
  pub job_full : {P' A' : List ℕ} {x : Bool} → c ≤ tally (in_slot i P) 0 (length P)
      → Over (putting i (first c (in_slot i P) 0) P) 0 (length P) P P' → Over (putting i (in_slot i P') A) 0 (length P) A A' → Noticed 0 (length P) A A' x
      → WindowDone i c P P' A A' x
  job_full l r q t = record {
    pins = r;
    maps = over_ext q (λ s h k. ap (λ (b : Bool). put i b (get_or A s 0)) (ap (member i) (r.mid s h k) ∙ member_put i (first c (in_slot i P) 0 s) (get_or P s 0) ∙ sym (shut s)));
    noticed = t;
  }
    where
      shut : (s : ℕ) → job_map c (length P) (in_slot i P) (in_slot i A) 0 s ≡ first c (in_slot i P) 0 s
      shut s = rw (le-leb c (tally (in_slot i P) 0 (length P)) l)
