-- What any crate may use: sums, searches, ranges and cases; and what a loop leaves in a lent list.
pub mod Sum
pub mod Least
pub mod Range
pub mod When
pub mod Over
pub mod Filled
