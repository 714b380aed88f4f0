-- What the contents of a task file say, and when they are refused.
pub mod Contents
pub mod File
