-- What it means to be admitted.
pub mod Admitted
