-- The laws of decimal numbers and of texts written one after the other, and the one outcome of each function.
pub mod AtHand
pub mod Decimals
pub mod Puts
pub mod Determined
