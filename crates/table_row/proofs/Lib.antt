-- The theorems about rows and multiples.
pub mod Divisor
pub mod Ranges
