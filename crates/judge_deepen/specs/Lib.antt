-- What is left in the two lists: at a depth, and one depth further.
pub mod Reached
pub mod Step
