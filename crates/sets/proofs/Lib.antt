-- The laws of sets as words.
pub mod Words
pub mod Digits
