-- The bytes of a task file: numbers, the sum of a body, and bytes written over others.
pub mod Number
pub mod Sum
pub mod Over
