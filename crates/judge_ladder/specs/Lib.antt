-- What the ladder gives, and what it leaves in the lent lists.
pub mod Ladder
