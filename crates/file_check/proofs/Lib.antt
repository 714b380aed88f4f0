-- The laws of the check of a file and of find: cases by computing, what an accepted file is, and the worked file.
pub mod AtHand
pub mod Steps
pub mod Fine
pub mod Determined
pub mod Worked
