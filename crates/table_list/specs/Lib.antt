-- What the check of a lent list of rows answers.
pub mod List
