-- The rows one after another: from the sets with few enough rows to the pinned sets, and from a map to the next.
use mathlib.Core.Path.{◌≡◌, refl, sym, ap, ap₂, ◌∙◌}
use mathlib.Core.Bool.{Bool, true, false, cond, ◌&&◌, ◌||◌, true≢false, false≢true, and-true, and-false}
use mathlib.Core.List.{List}
use mathlib.Core.Logic.{⊎_elim}
use Prim.Native.Nat.{ℕ, ◌+◌, ◌%◌, ◌<◌}
use native.Mathlib.Omega.{arith}
use lib.Dec.{leb}
use lib.ListN.{get_or}
use Rattle.model.specs.Model.{Model, Sound, Map}
use Rattle.model.specs.Pins.{size, pinned}
use Rattle.model.specs.Depths.{next}
use Rattle.std.proofs.lemmas.Bool.{or_cases, cases_Bool}
use Rattle.sets.specs.Word.{word, member, put, up_to, words}
use Rattle.sets.proofs.Words.{word_ext, word_none, member_word, put_same}
use Rattle.basics.specs.Over.{Over, Holds, Same}
use Rattle.basics.proofs.Overs.{over_ext, over_then}
use Rattle.judge_deepen.specs.Step.{Shrinking, Step}
use Rattle.judge_first.proofs.Sequential.{row_of, Sequential, size_word}
use Rattle.judge_jobs.specs.First.{in_slot}
use Rattle.judge_jobs.specs.Passes.{row_pin, row_map, RowDone}
use Rattle.judge_deepen.proofs.Pinned.{few_enough, row_pinned, row_next}
use Rattle.judge_deepen.proofs.Mix.{mix, mix_none, mix_all, mix_here, mix_put}

-- the words of a slot before row i's pass
abbrev pub pin_word : Model → Map → ℕ → ℕ → ℕ
pin_word M A i s = word M.rows (mix i (pinned M A s) (few_enough M A s))

abbrev pub map_word : Model → Map → ℕ → ℕ → ℕ
map_word M A i s = word M.rows (mix i (next M A s) (A s))

-- a slot and a row that the next map has otherwise
pub record Differs (M : Model) (A : Map) (h : ℕ) : Type 0 where
  pub slot : ℕ
  pub row : ℕ
  pub in_frame : slot < h
  pub in_table : row < M.rows
  pub other : next M A slot row ≡ A slot row → ⊥

-- both lists after the passes of the rows before i
pub record Passed (M : Model) (A : Map) (i h : ℕ) (pin pin' map map' : List ℕ) (changed : Bool) : Type 0 where
  pub pins : Over (pin_word M A i) 0 h pin pin'
  pub maps : Over (map_word M A i) 0 h map map'
  pub still : changed ≡ false → Same map map'
  pub moved : changed ≡ true → Differs M A h

still_then : (x y : Bool) {a b c : List ℕ} → (x ≡ false → Same a b) → (y ≡ false → Same b c) → x || y ≡ false → Same a c
still_then true y p q e = absurd (true≢false e)
still_then false y p q e = record { at = λ s. (q e).at s ∙ (p refl).at s }

-- row i's pass
pub pass_step : (M : Model) (A : Map) (h i : ℕ) → Sound M → i < M.rows → h % M.period i ≡ 0 → Shrinking M h A
    → {P₀ P P' A₀ A₁ A' : List ℕ} {x y : Bool}
    → Passed M A i h P₀ P A₀ A₁ x
    → RowDone i (row_of M i) h P P' A₁ A' y
    → Passed M A (i + 1) h P₀ P' A₀ A' (x || y)
pass_step M A h i G k F S {P₀} {P} {P'} {A₀} {A₁} {A'} {x} {y} r q = record {
  pins = over_then r.pins (over_ext q.pins (λ s z l. ap₂ (put i) (pin_now s l) (r.pins.mid s z l) ∙ mix_put M.rows i (pinned M A s) (few_enough M A s) k));
  maps = over_then r.maps (over_ext q.maps (λ s z l. ap₂ (put i) (map_now s l) (r.maps.mid s z l) ∙ mix_put M.rows i (next M A s) (A s) k));
  still = still_then x y r.still q.noticed.still;
  moved = λ e. ⊎_elim r.moved here (or_cases x y e);
}
  where
    positive : 0 < M.period i
    positive = omega (arith, G.some i k, G.room i k, G.apart i k)

    was : (s : ℕ) → s < h → in_slot i A₁ s ≡ A s i
    was s l = ap (member i) (r.maps.mid s (omega arith) l) ∙ member_word M.rows i (mix i (next M A s) (A s)) k ∙ mix_here i (next M A s) (A s)

    agree : (s : ℕ) → s < h → in_slot i P s ≡ few_enough M A s i
    agree s l = ap (member i) (r.pins.mid s (omega arith) l) ∙ member_word M.rows i (mix i (pinned M A s) (few_enough M A s)) k ∙ mix_here i (pinned M A s) (few_enough M A s)

    pin_now : (s : ℕ) → s < h → row_pin (row_of M i) (in_slot i P) s ≡ pinned M A s i
    pin_now s l = row_pinned M A i (in_slot i P) h positive F (G.apart i k) agree s l (S.inside s i l k)

    map_now : (s : ℕ) → s < h → row_map (row_of M i) (in_slot i P) (in_slot i A₁) s ≡ next M A s i
    map_now s l = row_next M A i (in_slot i P) h positive F (G.apart i k) agree s l (S.inside s i l k) (in_slot i A₁) (was s l) (S.less s i l k)

    here : y ≡ true → Differs M A h
    here e =
        let m = q.noticed.moved e in
        record {
          slot = m.slot;
          row = i;
          in_frame = m.to;
          in_table = k;
          other = λ z. m.other (q.maps.mid m.slot m.from m.to ∙ put_same i (get_or A₁ m.slot 0) (map_now m.slot m.to ∙ z ∙ sym (was m.slot m.to)));
        }

-- the sets of the slots with few enough rows
few_word : {M : Model} {m : ℕ} → Sequential M m → (A : Map) (s : ℕ) {w : ℕ} → w ≡ words M A s → up_to m w ≡ pin_word M A 0 s
unfolding up_to few_enough
few_word {M} q A s e =
    rw (e, size_word q A s, ← q.capacity s)
    (go (leb (size M A s) (M.capacity s)) ∙ word_ext M.rows (λ i l. sym (mix_none (pinned M A s) (few_enough M A s) i)))
  where
    go : (b : Bool) → cond b (word M.rows (A s)) 0 ≡ word M.rows (λ i. A s i && b)
    go true = word_ext M.rows (λ i l. sym (and-true (A s i)))
    go false = sym (word_ext M.rows (λ i l. and-false (A s i)) ∙ word_none M.rows)

-- before the first row's pass
pub first_pass : (M : Model) (A : Map) (h : ℕ) {m : ℕ} {P P' A₀ : List ℕ} → Sequential M m
    → Holds (words M A) h A₀ → Over (λ s. up_to m (get_or A₀ s 0)) 0 h P P' → Passed M A 0 h P' P' A₀ A₀ false
first_pass M A h one r q = record {
  pins = record { len = refl; low = λ s l. refl; high = λ s l. refl; mid = λ s z l. q.mid s z l ∙ few_word one A s (r.at s l) };
  maps = record { len = refl; low = λ s l. refl; high = λ s l. refl; mid = λ s z l. r.at s l ∙ word_ext M.rows (λ i k. sym (mix_none (next M A s) (A s) i)) };
  still = λ e. record { at = λ s. refl };
  moved = λ e. absurd (false≢true e);
}

-- after the last one's
pub last_pass : (M : Model) (A : Map) (h : ℕ) {f : ℕ → ℕ} {P P' P'' A₀ A' : List ℕ} {x : Bool} {n : ℕ} → n ≡ M.rows → Holds (words M A) h A₀ → Over f 0 h P P'
    → Passed M A n h P' P'' A₀ A' x → Step M h A A₀ P A' P'' x
last_pass M A h {f} {P} {P'} {P''} {A₀} {A'} {x} {n} e held q r' = record {
  pinned_sets = over_then q (over_ext r.pins (λ s z l. word_ext M.rows (mix_all M.rows (pinned M A s) (few_enough M A s))));
  next_sets = maps;
  still = r.still;
  told = λ z. ⊎_elim (λ t. absurd (same z (r.moved t))) (λ t. t) (cases_Bool x);
}
  where
    r : Passed M A M.rows h P' P'' A₀ A' x
    r = rw e at r'

    maps : Over (words M (next M A)) 0 h A₀ A'
    maps = over_ext r.maps (λ s z l. word_ext M.rows (mix_all M.rows (next M A s) (A s)))

    same : Same A₀ A' → Differs M A h → ⊥
    same z d =
        d.other (sym (member_word M.rows d.row (next M A d.slot) d.in_table)
        ∙ ap (member d.row) (sym (maps.mid d.slot (omega arith) d.in_frame) ∙ z.at d.slot ∙ held.at d.slot d.in_frame)
        ∙ member_word M.rows d.row (A d.slot) d.in_table)
