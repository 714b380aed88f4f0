-- When a table and two lent lists are refused.
pub mod Admit
