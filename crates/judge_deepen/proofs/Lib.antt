-- The theorems about depths.
pub mod Pinned
pub mod Mix
pub mod Pass
pub mod Depth
pub mod Determined
