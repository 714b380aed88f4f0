-- The lines of the ladder, and the square that they are worked out in.
pub mod Lines
pub mod Core
