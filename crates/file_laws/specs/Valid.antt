-- Which lists of entries are a task file.
use Rattle.std.specs.Prelude.{◌≡◌, true, false, ℕ, ◌≤◌, ◌<◌, List, [], ◌∷◌, length, get_or}
use Rattle.file_entries.specs.Limits.{most_entries, most_bytes}
use Rattle.file_kinds.specs.Kinds.{kind_of, is_table, is_refused}
use Rattle.file_contents.specs.File.{Entry, encode}
use Rattle.file_bodies.specs.Refusal.{body_refusal}

-- a list of bytes
abbrev pub Bytes : List ℕ → Type 0
Bytes s = (k : ℕ) → get_or s k 0 < 256

-- an entry by itself: its kind is a table's or a note's, and a table's body has no refusal
pub record ValidEntry (e : Entry) : Type 0 where
  pub kind : is_refused (kind_of e.kind) ≡ false
  pub number : e.number < 65536
  pub bytes : Bytes e.body
  pub table : is_table (kind_of e.kind) ≡ true → (body_refusal e.body).no ≡ 0

-- what holds of each entry of a list
abbrev pub Each : (Entry → Type 0) → List Entry → Type 0
Each P [] = Unit {0}
Each P (e ∷ es) = P e × Each P es

-- "Numbers are all different"
abbrev pub Different : List Entry → Type 0
Different [] = Unit {0}
Different (e ∷ es) = Each (λ d. e.number ≡ d.number → ⊥) es × Different es

-- "number of entries n, 1 to 64"; "At most 65,535 bytes"
pub record ValidEntries (es : List Entry) : Type 0 where
  pub some : 1 ≤ length es
  pub few : length es ≤ most_entries
  pub each : Each ValidEntry es
  pub different : Different es
  pub short : length (encode es) ≤ most_bytes
