-- The theorems about the check of a list.
pub mod Whole
pub mod OfTable
pub mod Determined
