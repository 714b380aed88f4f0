-- What tables and answers are in plain numbers.
pub mod Lent
pub mod Answers
