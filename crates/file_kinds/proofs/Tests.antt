-- What a test of a kind in the code tells: `k == Some(Kind::Table)`, `k == Some(Kind::Note)`.
use Rattle.std.proofs.Common.{◌≡◌, Bool, refl, sym, ◌∙◌, Option, Some, None}
use Rattle.std.specs.Option.{option_eq}
use Rattle.file_kinds.specs.declared.Kind.{Kind}
use Rattle.file_kinds.specs.declared.Kind.TheVariants.{Table, Note}
use Rattle.file_kinds.specs.contracts.KindPartialEq.TheImpl as same
use Rattle.file_kinds.specs.Kinds.{is_table, is_note}

table_test : (k : Option Kind) → is_table k ≡ option_eq same.eq-value.it k (Some Table)
table_test (Some Table) = refl
table_test (Some Note) = refl
table_test None = refl

note_test : (k : Option Kind) → is_note k ≡ option_eq same.eq-value.it k (Some Note)
note_test (Some Table) = refl
note_test (Some Note) = refl
note_test None = refl

module _ (k : Option Kind) {r b : Bool} where
  pub table_said : r ≡ option_eq same.eq-value.it k (Some Table) → r ≡ b → is_table k ≡ b
  table_said e h = table_test k ∙ sym e ∙ h

  pub note_said : r ≡ option_eq same.eq-value.it k (Some Note) → r ≡ b → is_note k ≡ b
  note_said e h = note_test k ∙ sym e ∙ h
