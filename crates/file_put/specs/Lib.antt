-- A file with a table put into it.
pub mod Put
pub mod Writing
