-- The laws of a table's body: which refusal comes first, rows written, and its refusals.
pub mod AtHand
pub mod Writing
pub mod Refusals
