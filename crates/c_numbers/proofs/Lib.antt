-- The laws of tables and answers in plain numbers.
pub mod Upto
pub mod Threes
pub mod Table
pub mod Again
pub mod Determined
