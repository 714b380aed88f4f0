-- The papers' definitions as mathematics: they know nothing of files, words or machine integers.
pub mod Model
pub mod Windows
pub mod Pins
pub mod Depths
pub mod Supply
pub mod Work
pub mod Failing
pub mod Schedule
pub mod Tests
