-- Why the passes over a job and over a row leave what they promise.
pub mod Tally
pub mod Noticed
pub mod Trimmed
pub mod Window
pub mod Done
pub mod Row
pub mod Determined
