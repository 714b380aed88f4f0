-- The laws behind the C functions.
pub mod Determined
