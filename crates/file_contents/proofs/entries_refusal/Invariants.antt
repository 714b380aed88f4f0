-- The entries passed so far are in order, and the next body must start at the place.
use Rattle.std.proofs.Common.{◌≡◌, ℕ, ◌≤◌, ◌<◌, length}
use Rattle.file_entries.specs.Entries.{place_of}
use Rattle.file_contents.specs.Contents.{entry_refusal}
use Rattle.file_contents.proofs.Fine.{HeadFine}
use Rattle.file_contents.proofs.entries_refusal.Given as goal

abbrev pub invariant-loop-i : goal.invariant-loop-i
invariant-loop-i l = record {
  head : HeadFine l.s;
  placed : l.place ≡ place_of l.s l.i;
  reached : l.place ≤ length l.s;
  fine : (k : ℕ) → k < l.i → entry_refusal l.s k ≡ 0;
}
