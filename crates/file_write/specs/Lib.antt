-- What a file is written from.
pub mod Sources
