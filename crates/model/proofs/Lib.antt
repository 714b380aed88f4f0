-- The theorems about the papers' definitions.
pub mod AtHand
pub mod Pins
pub mod Supply
pub mod Better
pub mod Soundness
pub mod Shrink
pub mod Frames
pub mod Stop
pub mod Least
pub mod Past
pub mod Tests
pub mod Examples
