-- What a row is, the limits, and the multiple of periods.
pub mod Limits
pub mod Divisor
pub mod Row
