-- What the C functions give and leave.
pub mod Outcomes
