-- What adding and removing a row gives.
pub mod Edit
