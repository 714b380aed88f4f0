-- The laws of numbers in bytes, of the sum, and of bytes written over others.
pub mod Numbers
pub mod Sums
pub mod Overs
