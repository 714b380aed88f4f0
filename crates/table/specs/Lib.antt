-- What a table is, when it is accepted, and which model it makes.
pub mod Frame
pub mod Rows
pub mod Check
pub mod Meaning
pub mod Seen
