-- The check accepts exactly the bytes of valid entries, and each such list of bytes is the bytes of one list of entries.
use mathlib.Core.Path.{◌≡◌, sym, ap, ◌∙◌}
use mathlib.Core.Logic.{◌↔◌}
use Prim.Native.Nat.{ℕ}
use mathlib.Core.List.{List}
use Rattle.refusal.specs.Refusal.{Numbered}
use Rattle.file_contents.specs.File.{Entry, encode, entries_of}
use Rattle.file_check.specs.Check.{file_refusal}
use Rattle.file_laws.specs.Valid.{Bytes, ValidEntries}
use Rattle.file_laws.proofs.Laid.{entries_back}
use Rattle.file_laws.proofs.Accepted.{file_back, file_valid, encode_fine}
use Rattle.file_laws.proofs.Encoded.{encode_bytes}

pub accepted_exactly : (s : List ℕ) → (Bytes s × ((file_refusal s).no ≡ 0)) ↔ ((es : List Entry) × ValidEntries es × (encode es ≡ s))
accepted_exactly s = (
  λ h. (entries_of s, file_valid s h.0 h.1, file_back s h.0 h.1),
  λ f. rw (← f.2) (encode_bytes f.0 f.1, sym (ap (λ (r : Numbered). r.no) (encode_fine f.0 f.1))),
)

pub encode_once : (es ds : List Entry) → encode es ≡ encode ds → es ≡ ds
encode_once es ds e = sym (entries_back es) ∙ ap entries_of e ∙ entries_back ds
