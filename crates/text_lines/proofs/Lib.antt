-- The laws of lines.
pub mod Lines
