-- Why running sums of what falls due and of what is usable find the least failing length.
pub mod Falls
pub mod Jobs
pub mod Running
pub mod Rows
pub mod Slots
pub mod Answer
pub mod Determined
