-- Text in bytes: numbers in decimal, the words of a line, and text written at a place.
pub mod Decimal
pub mod Words
pub mod Put
