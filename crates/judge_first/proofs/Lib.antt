-- The theorems about the first map, and what every pass knows of a table's model.
pub mod Sequential
pub mod Next
pub mod Determined
