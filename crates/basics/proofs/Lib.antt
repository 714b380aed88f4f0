-- The laws of what any crate may use.
pub mod Bools
pub mod Sums
pub mod Least
pub mod Range
pub mod When
pub mod Determined
pub mod Overs
pub mod Tabled
pub mod Arrays
