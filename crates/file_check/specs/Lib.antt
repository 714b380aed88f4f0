-- The check of a task file, and the table that it has under a number.
pub mod Check
pub mod Find
