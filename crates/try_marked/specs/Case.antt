-- An entry of the marked tables, and when it is right, as a test that computes.
use Rattle.std.specs.Prelude.{Bool, ◌&&◌, List, [], ◌∷◌, ◌++◌, ℕ, ◌-◌, eqb, length, get_or, take, replicate, Option, Some, None}
use Rattle.basics.specs.Sum.{all}
use Rattle.model.specs.Model.{Model}
use Rattle.model.specs.Depths.{available, pinned_at}
use Rattle.table.specs.declared.Table.{Table}
use Rattle.table.specs.Check.{check_of}
use Rattle.table.specs.Meaning.{model_of}
use Rattle.sets.specs.Word.{words}
use Rattle.judge_scan.specs.declared.Line.{Line}
use Rattle.judge_scan.specs.Lines.{no_line, line_at}
use Rattle.try_marked.specs.declared.Case.{Case}
use Rattle.try_marked.specs.declared.Lists.{Lists}
use Rattle.try_marked.specs.Rows.{table_from}

-- T, C and D, as the rows of the tables stand
abbrev pub row : ℕ → ℕ → ℕ → List ℕ
row t c d = t ∷ c ∷ d ∷ []

-- m, x and the rows; the frame; t, work and supply of an infeasible table; and both lists where they are told
abbrev pub told : ℕ → ℕ → List (List ℕ) → ℕ → Option (List ℕ) → Option Lists → Case
told m x rows h line lists = record {
  processors = m;
  depth = x;
  count = length rows;
  rows = take 4 (rows ++ replicate 4 (row 0 0 0));
  frame = h;
  line = line;
  lists = lists;
}

abbrev pub infeasible_at : ℕ → ℕ → List (List ℕ) → ℕ → ℕ → ℕ → ℕ → Case
infeasible_at m x rows h t work supply = told m x rows h (Some (t ∷ work ∷ supply ∷ [])) None

abbrev pub undecided : ℕ → ℕ → List (List ℕ) → ℕ → Case
undecided m x rows h = told m x rows h None None

-- undecided, with a frame of four slots and all words of both lists
abbrev pub with_lists : ℕ → ℕ → List (List ℕ) → List ℕ → List ℕ → Case
with_lists m x rows map pins = told m x rows 4 None (Some (record { map = map; pins = pins }))

-- a case of zeros
abbrev pub no_case : Case
no_case = undecided 0 0 [] 0

abbrev pub case_table : Case → Table
case_table c = table_from c.processors c.depth c.count c.rows

abbrev pub model_in : Case → Model
model_in c = model_of (case_table c)

-- its line: t, work and supply, or three zeros
abbrev pub line_by : Option (List ℕ) → Line
line_by None = no_line
line_by (Some l) = record { t = get_or l 0 0; work = get_or l 1 0; supply = get_or l 2 0 }

abbrev pub line_in : Case → Line
line_in c = line_by c.line

-- the words that are told, none where the lists are not
abbrev pub map_of : Option Lists → List ℕ
map_of None = []
map_of (Some l) = l.map

abbrev pub pins_of : Option Lists → List ℕ
pins_of None = []
pins_of (Some l) = l.pins

-- its table is accepted, with its frame
unfoldable pub checks : Case → Bool
checks c = let a = check_of (case_table c) in eqb a.refusal.no 0 && eqb a.frame c.frame

abbrev pub same_line : Line → Line → Bool
same_line l k = eqb l.t k.t && (eqb l.work k.work && eqb l.supply k.supply)

-- the least failing length, its work and its supply, or three zeros, are its answer
unfoldable pub answers : Case → Bool
answers c = same_line (line_at (model_in c) c.depth c.frame) (line_in c)

-- its words are those of the available sets at its depth
unfoldable pub mapped : Case → Bool
mapped c =
    let told = map_of c.lists in
    all (length told) (λ s. eqb (words (model_in c) (available (model_in c) c.depth) s) (get_or told s 0))

-- and those of the pinned sets at the depth before
unfoldable pub pinned_in : Case → Bool
pinned_in c =
    let told = pins_of c.lists in
    all (length told) (λ s. eqb (words (model_in c) (pinned_at (model_in c) (c.depth - 1)) s) (get_or told s 0))

unfoldable pub right : Case → Bool
right c = checks c && (answers c && (mapped c && pinned_in c))
