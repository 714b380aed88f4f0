-- The laws of the new file: cases by computing, its entries, and the steps to its refusals.
pub mod AtHand
pub mod Entered
pub mod Steps
pub mod Determined
