-- The laws of a file's contents: which refusal comes first, how the code comes to each, what it tells that there is none, and the bytes of entries.
pub mod AtHand
pub mod Steps
pub mod Fine
pub mod Files
