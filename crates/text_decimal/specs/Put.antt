-- Text written at a place of a lent output.
use Rattle.std.specs.Prelude.{◌≡◌, cond, List, ℕ, ◌+◌, ◌≤◌, leb, length}
use Rattle.file_bytes.specs.Over.{over}
use Rattle.text_decimal.specs.declared.Output.{Output}

-- the place after n bytes, in a room that has place for them; else the place itself
abbrev pub place_after : ℕ → ℕ → ℕ → ℕ
place_after room at n = cond (leb (at + n) room) (at + n) at

-- the output with the text at a place, and the next place; both as they were where there is no room
pub record Put (out : List ℕ) (at : ℕ) (text out' : List ℕ) (r : ℕ) : Type 0 where
  pub output : out' ≡ over out at text
  pub place : r ≡ place_after (length out) at (length text)

-- the same, of an output that is lent with its place
pub record PutIn (o : Output) (text : List ℕ) (o' : Output) : Type 0 where
  pub same : o'.bytes.ghost_name ≡ o.bytes.ghost_name
  pub put : Put o.bytes.now o.at text o'.bytes.now o'.at

-- the same, where there is room; the output keeps its length in any case
pub record Written (o : Output) (text : List ℕ) (o' : Output) : Type 0 where
  pub same : o'.bytes.ghost_name ≡ o.bytes.ghost_name
  pub kept : length o'.bytes.now ≡ length o.bytes.now
  pub put : o.at + length text ≤ length o.bytes.now → Put o.bytes.now o.at text o'.bytes.now o'.at
