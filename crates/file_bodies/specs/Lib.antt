-- The body of a table: where its parts stand, its bytes as a table, a table as bytes, and its refusals.
pub mod Layout
pub mod Body
pub mod Refusal
