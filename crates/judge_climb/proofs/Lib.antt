-- The theorems about the square.
pub mod Squares
pub mod Same
pub mod Climbing
pub mod Determined
