-- The lines of the shift check.
pub mod Line
pub mod Told
