-- The theorems about the judge.
pub mod Lines
pub mod Answers
pub mod Outcomes
pub mod Determined
pub mod Meaning
pub mod Kept
pub mod Past
