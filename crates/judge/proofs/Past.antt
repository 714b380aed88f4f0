-- "Rows past the count never matter": tables that are alike get the same answer and leave the same words.
use mathlib.Core.Path.{◌≡◌, refl, ap, ap₂, ◌∙◌}
use mathlib.Core.Bool.{cond}
use mathlib.Core.List.{List}
use Prim.Native.Nat.{ℕ, ◌-◌}
use lib.Dec.{eqb}
use lib.ListN.{length}
use Rattle.basics.proofs.Tabled.{filled_ext}
use Rattle.model.specs.Model.{Model, Map}
use Rattle.model.specs.Depths.{available, pinned_at}
use Rattle.model.specs.Supply.{supply}
use Rattle.model.specs.Work.{work_due}
use Rattle.model.specs.Failing.{least_failing}
use Rattle.model.proofs.Past.{SameRows, Agree, available_alike, pinned_at_alike, supply_alike, work_alike, least_alike}
use Rattle.sets.specs.Word.{word, words}
use Rattle.sets.proofs.Words.{word_ext}
use Rattle.table_row.specs.declared.Row.{Row}
use Rattle.table.specs.declared.Table.{Table}
use Rattle.table.specs.declared.Beside.{Beside}
use Rattle.table.specs.Rows.{Alike}
use Rattle.table.specs.Check.{Numbers as CheckNumbers}
use Rattle.table.specs.Meaning.{model_of}
use Rattle.table.proofs.Past.{past_the_count}
use Rattle.judge_scan.specs.declared.Line.{Line}
use Rattle.judge_scan.specs.Lines.{no_line, line_of, line_at}
use Rattle.judge_admit.specs.Admit.{long_enough, admit_of}
use Rattle.judge.specs.After.{unless_refused, map_after, pins_after}
use Rattle.judge.specs.Judge.{Numbers, given, withheld, judge_of}

-- the models of tables that are alike
pub same_model : (t u : Table) → Alike t u → SameRows (model_of t) (model_of u)
same_model t u a = record {
  rows = a.count;
  period = λ i k. ap (λ (r : Row). r.period) (a.rows i k);
  execution = λ i k. ap (λ (r : Row). r.execution) (a.rows i k);
  deadline = λ i k. ap (λ (r : Row). r.deadline) (a.rows i k);
  weight = λ i k. refl;
  capacity = λ s. ap (λ (b : Beside). b.processors) a.beside;
}

words_alike : (M N : Model) (A B : Map) → M.rows ≡ N.rows → Agree M.rows A B → (s : ℕ) → words M A s ≡ words N B s
words_alike M N A B e f s = word_ext M.rows (λ i k. f s i k) ∙ ap (λ (n : ℕ). word n (B s)) e

unless_alike : (c : CheckNumbers) (f g : ℕ → ℕ) (l : List ℕ) → ((s : ℕ) → f s ≡ g s) → unless_refused c f l ≡ unless_refused c g l
unless_alike c f g l e = ap (λ (k : List ℕ). cond (eqb c.refusal.no 0) k l) (filled_ext c.frame l (λ s h. e s))

module _ (t u : Table) (a : Alike t u) where
  q : SameRows (model_of t) (model_of u)
  q = same_model t u a

  pub line_alike : (y h : ℕ) → line_at (model_of t) y h ≡ line_at (model_of u) y h
  unfolding line_of
  line_alike y h =
      ap (line (model_of t)) (least_alike (model_of t) (model_of u) q y h)
      ∙ ap₂ (λ (w p : ℕ). shown w p) (work_alike (model_of t) (model_of u) q k)
      (supply_alike (model_of t) (model_of u) q (available (model_of t) y) (available (model_of u) y) (available_alike (model_of t) (model_of u) q y) k)
    where
      k : ℕ
      k = least_failing (model_of u) (available (model_of u) y) h

      line : Model → ℕ → Line
      line M n = cond (eqb n 0) no_line (record { t = n; work = work_due M n; supply = supply M (available M y) n })

      shown : ℕ → ℕ → Line
      shown w p = cond (eqb k 0) no_line (record { t = k; work = w; supply = p })

  pub admit_alike : (m n : ℕ) → admit_of t m n ≡ admit_of u m n
  unfolding admit_of
  admit_alike m n = ap (λ (c : CheckNumbers). cond (eqb c.refusal.no 0) (long_enough m n c) c) (past_the_count t u a)

  pub judge_alike : (m n : ℕ) → t.depth ≡ u.depth → judge_of t m n ≡ judge_of u m n
  unfolding judge_of
  judge_alike m n d =
      ap (answer t) (admit_alike m n)
      ∙ ap (λ (l : Line). cond (eqb c.refusal.no 0) (given l c.frame) (withheld c.refusal))
      (line_alike t.depth c.frame ∙ ap (λ (y : ℕ). line_at (model_of u) y c.frame) d)
    where
      c : CheckNumbers
      c = admit_of u m n

      answer : Table → CheckNumbers → Numbers
      answer v k = cond (eqb k.refusal.no 0) (given (line_at (model_of v) v.depth k.frame) k.frame) (withheld k.refusal)

  pub map_alike : (x : ℕ) (map pins : List ℕ) → map_after t x map pins ≡ map_after u x map pins
  unfolding map_after
  map_alike x map pins =
      ap (λ (c : CheckNumbers). unless_refused c (words (model_of t) (available (model_of t) x)) map) (admit_alike (length map) (length pins))
      ∙ unless_alike (admit_of u (length map) (length pins)) _ _ map (words_alike (model_of t) (model_of u) _ _ a.count (available_alike (model_of t) (model_of u) q x))

  pub pins_alike : (x : ℕ) (map pins : List ℕ) → pins_after t x map pins ≡ pins_after u x map pins
  unfolding pins_after
  pins_alike x map pins =
      ap (λ (c : CheckNumbers). unless_refused c (words (model_of t) (pinned_at (model_of t) (x - 1))) pins) (admit_alike (length map) (length pins))
      ∙ unless_alike (admit_of u (length map) (length pins)) _ _ pins (words_alike (model_of t) (model_of u) _ _ a.count (pinned_at_alike (model_of t) (model_of u) q (x - 1)))
