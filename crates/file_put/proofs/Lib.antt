-- The laws of putting a table into a file: what is written, with which answers, and what never matters.
pub mod Outcomes
pub mod Determined
pub mod Refused
pub mod Past
