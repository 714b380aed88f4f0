-- "Kind 1 is a task table. Kinds 128 to 255 are notes, carried unread, and may have length 0. Kinds 0, 2 to 127 and 256 up are refused."
use Rattle.std.specs.Prelude.{Bool, true, false, ℕ, ltb, eqb, Option, Some, None}
use Rattle.file_kinds.specs.declared.Kind.{Kind}
use Rattle.file_kinds.specs.declared.Kind.TheVariants.{Table, Note}
use Rattle.basics.specs.When.{when}

-- "Kind 1 is a task table."
abbrev pub table_kind : ℕ
table_kind = 1

-- what a kind number says; None: it is refused
unfoldable pub kind_of : ℕ → Option Kind
kind_of k = when (eqb k table_kind) (Some Table) (when (ltb k 128) None (when (ltb k 256) (Some Note) None))

abbrev pub is_table : Option Kind → Bool
is_table (Some Table) = true
is_table (Some Note) = false
is_table None = false

abbrev pub is_note : Option Kind → Bool
is_note (Some Table) = false
is_note (Some Note) = true
is_note None = false

abbrev pub is_refused : Option Kind → Bool
is_refused (Some k) = false
is_refused None = true
