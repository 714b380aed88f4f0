-- The laws of refusals in an order, and of their numbers.
pub mod Order
pub mod Told
