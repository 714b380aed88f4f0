-- The word of one row more, and the spans of the rows where they stand.
use mathlib.Core.Path.{◌≡◌, refl, ◌∙◌}
use mathlib.Core.Bool.{Bool, true, false}
use Prim.Native.Nat.{ℕ, suc, ◌+◌, ◌*◌, ◌^◌, ◌≤◌, ◌<◌}
use native.Mathlib.Nat.{div-eq_of_lt, le_of_suc-le-suc, eq-or-lt_of_le}
use native.Mathlib.Numerals.{add-one}
use native.Mathlib.Omega.{arith}
use borrow.Author.Tests.{lt-ltb}
use lib.ListN.{length, get_or, take, set, replicate, length-set}
use mathlib.Core.List.{List}
use mathlib.Core.Logic.{⊎_elim}
use Rattle.basics.proofs.Bools.{lt_or_ge}
use Rattle.table_row.specs.Limits.{most_rows}
use Rattle.std.proofs.lemmas.List.{get_or-take, get_or-replicate, get_or_past, length-replicate, get_or-set_same, get_or-set_other}
use Rattle.model.specs.Windows.{window}
use Rattle.table.specs.declared.Table.{Table}
use Rattle.table.specs.Rows.{row_at}
use Rattle.table.specs.Meaning.{model_of}
use Rattle.judge_first.specs.declared.Span.{Span}
use Rattle.judge_first.specs.Spans.{span_by, no_span, SpansOf, in_windows}
use Rattle.sets.specs.Word.{width, word, words, put, unset, adding}
use Rattle.sets.proofs.Words.{word_lt, word_ext}

put_next : (i w : ℕ) → w < 2 ^ i → put i true w ≡ 1 * 2 ^ i + w
unfolding put unset
put_next i w h = rw (div-eq_of_lt h) (omega arith)

module _ (p : ℕ → Bool) where
  pub word_zero : word 0 p ≡ 0
  unfolding word
  word_zero = refl

  module _ (i : ℕ) where
    -- the row is in it
    pub word_with : i < width → p i ≡ true → adding width i (word i p) ≡ word (i + 1) p
    unfolding word adding
    word_with h e = rw (add-one i, e, lt-ltb i width h) (put_next i (word i p) (word_lt i p))

    -- it is not
    pub word_same : p i ≡ false → word i p ≡ word (i + 1) p
    unfolding word
    word_same e = rw (add-one i, e) (omega arith)

no_span_at : (n i : ℕ) → get_or (replicate n no_span) i no_span ≡ no_span
no_span_at n i =
    ⊎_elim
    (λ (h : i < n). get_or-replicate n i no_span no_span h)
    (λ (h : n ≤ i). get_or_past (replicate n no_span) i no_span (omega (arith, h, length-replicate n no_span)))
    (lt_or_ge i n)

-- the spans of the rows that matter, and the slots of their windows
module _ {t : Table} where
  pub spans_none : SpansOf t 0 (replicate most_rows no_span)
  spans_none = record { len = length-replicate most_rows no_span; each = λ i l. absurd (omega arith); past = λ i l. no_span_at most_rows i }

  pub spans_more : {k : ℕ} {spans : List Span} {x : Span} → SpansOf t k spans → k < most_rows → x ≡ span_by (row_at t k)
      → SpansOf t (k + 1) (set spans k x)
  spans_more {k} {spans} {x} r l e = record {
    len = length-set spans k x ∙ r.len;
    each = λ i g.
        ⊎_elim
        (λ (q : i ≡ k). rw q (get_or-set_same spans k x no_span (omega (arith, l, r.len)) ∙ e))
        (λ (q : i < k). get_or-set_other spans k i x no_span (λ (z : i ≡ k). omega arith) ∙ r.each i q)
        (eq-or-lt_of_le (le_of_suc-le-suc (let h : suc i ≤ suc k = omega arith in h)));
    past = λ i g. get_or-set_other spans k i x no_span (λ (z : i ≡ k). omega arith) ∙ r.past i (omega arith);
  }

  module _ {spans : List Span} (r : SpansOf t t.count spans) where
    pub used_at : (i : ℕ) → i < t.count → get_or (take t.count spans) i no_span ≡ span_by (row_at t i)
    used_at i l = get_or-take t.count spans i no_span l ∙ r.each i l

    pub windows_are : (s : ℕ) → length (take t.count spans) ≡ t.count
        → word (length (take t.count spans)) (in_windows (take t.count spans) s) ≡ words (model_of t) (window (model_of t)) s
    unfolding window
    windows_are s e = rw e (word_ext t.count {p = in_windows (take t.count spans) s} {q = window (model_of t) s} (λ i l. rw (used_at i l) refl))
