-- The laws of the parts of an entry, of a search of the entries, and of the kind under a number.
pub mod Parts
pub mod Seeks
pub mod Under
