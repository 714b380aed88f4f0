-- What stands in the contents of a task file.
pub mod Limits
pub mod Entries
