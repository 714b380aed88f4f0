-- The theorems about adding and removing a row.
pub mod Rows
pub mod Steps
pub mod Results
pub mod Past
pub mod Places
pub mod Back
pub mod AddedRow
pub mod Determined
