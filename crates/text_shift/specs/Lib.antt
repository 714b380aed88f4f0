-- The text that the shift check writes for a file, and what it leaves in the lent lists.
pub mod Text
pub mod Lists
pub mod Shift
pub mod Steps
