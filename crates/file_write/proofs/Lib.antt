-- The laws of writing a file from its sources.
pub mod Turns
