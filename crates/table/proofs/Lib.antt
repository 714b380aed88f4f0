-- The theorems about tables.
pub mod Frame
pub mod Steps
pub mod SoFar
pub mod Accepted
pub mod Past
pub mod Determined
pub mod RowsBy
