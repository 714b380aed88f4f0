-- The theorems about the ladder.
pub mod Answers
pub mod Determined
pub mod Depths
pub mod Meaning
