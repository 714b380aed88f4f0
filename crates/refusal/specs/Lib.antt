-- What a refusal is, and which of several is given.
pub mod Refusal
pub mod Order
pub mod Told
