-- What the first map reads of a row.
pub mod Spans
