-- Sets of rows as words.
pub mod Word
