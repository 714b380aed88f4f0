-- What a test of a kind in the code tells.
pub mod Tests
