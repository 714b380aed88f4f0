-- What a job and a row do to the words of the pins and of the map.
pub mod First
pub mod Passes
