-- What the judge gives, and what it leaves in the lent lists.
pub mod After
pub mod Judge
pub mod Meaning
pub mod Passes
