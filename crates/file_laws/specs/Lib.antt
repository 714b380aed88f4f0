-- The task files that there are, as lists of entries, and find over them.
pub mod Valid
pub mod FindIn
