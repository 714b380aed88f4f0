-- What the statement over the marked tables says of the rules, and of the judge.
pub mod Computed
pub mod Rules
