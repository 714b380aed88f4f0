-- The kinds of entries.
pub mod Kinds
