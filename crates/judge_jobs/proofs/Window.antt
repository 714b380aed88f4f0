-- A window lent out of a list: its slots are the list's from the release on, and what it holds afterwards is put back.
use mathlib.Core.Path.{◌≡◌, refl, sym, ap, ap₂, subst, ◌∙◌}
use mathlib.Core.Bool.{Bool}
use mathlib.Core.Logic.{⊎_elim}
use native.Mathlib.Nat.{le_refl, zero-add}
use Rattle.std.proofs.lemmas.Bool.{cases_lt}
use mathlib.Core.List.{List}
use Prim.Native.Nat.{ℕ, ◌+◌, ◌-◌, ◌≤◌, ◌<◌}
use native.Mathlib.Omega.{arith}
use lib.ListN.{length, get_or, take, drop, length-take, length-drop}
use borrow.Rule.Slice.PartMut.{put_mid}
use Rattle.std.proofs.lemmas.List.{places}
use borrow.Author.Rules.{rules}
use Rattle.basics.specs.Over.{Over}
use Rattle.sets.specs.Word.{member, put}
use Rattle.basics.specs.Sum.{bit}
use Rattle.basics.proofs.Sums.{sum_eq}
use Rattle.judge_jobs.specs.First.{in_slot, tally, first}
use Rattle.judge_jobs.specs.Passes.{job_map, Noticed, WindowDone, JobDone}

module _ (a k : ℕ) (l : List ℕ) (h : a + k ≤ length l) where
  pub window_length : length (take k (drop a l)) ≡ k
  window_length = simp (length-take, length-drop) (omega arith)

  pub window_slot : (s : ℕ) → s < k → get_or (take k (drop a l)) s 0 ≡ get_or l (a + s) 0
  window_slot s m = search (rules, places)

  module _ (w : List ℕ) (e : length w ≡ k) where
    put_len : length (put_mid a k l w) ≡ length l
    put_len = search (rules, places)

    put_low : (s : ℕ) → s < a → get_or (put_mid a k l w) s 0 ≡ get_or l s 0
    put_low s m = search (rules, places)

    put_inside : (s : ℕ) → a ≤ s → s < a + k → get_or (put_mid a k l w) s 0 ≡ get_or w (s - a) 0
    put_inside s m n = search (rules, places)

    put_high : (s : ℕ) → a + k ≤ s → get_or (put_mid a k l w) s 0 ≡ get_or l s 0
    put_high s m = search (rules, places)

  -- what is said of the window's slots is said of the list's
  pub put_over : {f g : ℕ → ℕ} {d : ℕ} {w : List ℕ} → d ≡ k → Over f 0 d (take k (drop a l)) w → ((s : ℕ) → s < k → f s ≡ g (a + s))
      → Over g a (a + k) l (put_mid a k l w)
  put_over {f} {g} {d} {w} u r e =
      let n : length w ≡ k = r.len ∙ window_length in
      record {
        len = put_len w n;
        low = put_low w n;
        mid = λ s i j. put_inside w n s i j ∙ r.mid (s - a) (omega arith) (omega arith) ∙ e (s - a) (omega arith) ∙ ap g (let b : a + (s - a) ≡ s = omega arith in b);
        high = put_high w n;
      }

  pub put_noticed : {d : ℕ} {w : List ℕ} {x : Bool} → d ≡ k → length w ≡ length (take k (drop a l)) → Noticed 0 d (take k (drop a l)) w x → Noticed a (a + k) l (put_mid a k l w) x
  put_noticed {d} {w} u v r = let n : length w ≡ k = v ∙ window_length in record {
    still = λ z. record {
      at = λ s.
          ⊎_elim
          (λ (m : s < a). put_low w n s m)
          (λ (m : a ≤ s).
          ⊎_elim
          (λ (j : s < a + k).
          put_inside w n s m j ∙ (r.still z).at (s - a) ∙ window_slot (s - a) (omega arith)
          ∙ ap (λ (y : ℕ). get_or l y 0) (let b : a + (s - a) ≡ s = omega arith in b))
          (λ (j : a + k ≤ s). put_high w n s j)
          (cases_lt s (a + k)))
          (cases_lt s a);
    };
    moved = λ z.
        let m = r.moved z in
        let t : m.slot < k = omega (arith, m.to) in
        record {
          slot = a + m.slot;
          from = omega arith;
          to = omega arith;
          other = λ y. m.other (ap (λ (j : ℕ). get_or w j 0) (let b : m.slot ≡ a + m.slot - a = omega arith in b)
              ∙ sym (put_inside w n (a + m.slot) (omega arith) (omega arith)) ∙ y ∙ sym (window_slot m.slot t));
        };
  }

  module _ (i c : ℕ) where
    window_tally : (o : ℕ) → o ≤ k → tally (in_slot i (take k (drop a l))) 0 o ≡ tally (in_slot i l) a o
    unfolding tally
    window_tally o m = sum_eq o (λ s j. ap (λ (y : ℕ). bit (member i y)) (rw (zero-add s) (window_slot s (omega arith))))

    window_first : (s : ℕ) → s < k → first c (in_slot i (take k (drop a l))) 0 s ≡ first c (in_slot i l) a (a + s)
    unfolding first
    window_first s m =
        let d : a + s - a ≡ s = omega arith in
        let z : s - 0 ≡ s = omega arith in
        rw (d, z, window_slot s m, window_tally s (omega arith)) refl

-- a job done in its window is done in the lists
module _ (i c a k : ℕ) (P A : List ℕ) (h : a + k ≤ length P) (g : a + k ≤ length A) where
  window_map : (s : ℕ) → s < k
      → job_map c (length (take k (drop a P))) (in_slot i (take k (drop a P))) (in_slot i (take k (drop a A))) 0 s
      ≡ job_map c k (in_slot i P) (in_slot i A) a (a + s)
  window_map s m =
      rw (window_length a k P h, window_tally a k P h i c k (le_refl k), window_first a k P h i c s m, window_slot a k A g s m) refl

  pub job_window : {d : ℕ} {P' A' : List ℕ} {x : Bool} → k ≡ d → WindowDone i c (take k (drop a P)) P' (take k (drop a A)) A' x
      → JobDone i c d a P (put_mid a k P P') A (put_mid a k A A') x
  job_window {d} {P'} {A'} {x} e q =
      let n = window_length a k P h in
      subst (λ (y : ℕ). JobDone i c y a P (put_mid a k P P') A (put_mid a k A A') x) e (record {
        pins = put_over a k P h n q.pins (λ s m. ap₂ (put i) (window_first a k P h i c s m) (window_slot a k P h s m));
        maps = put_over a k A g n q.maps (λ s m. ap₂ (put i) (window_map s m) (window_slot a k A g s m));
        noticed = put_noticed a k A g n q.maps.len q.noticed;
      })
