-- When an entry of the marked tables is right, and which they are.
pub mod Rows
pub mod Case
pub mod Paper
