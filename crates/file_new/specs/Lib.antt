-- The file that put makes.
pub mod New
pub mod Steps
