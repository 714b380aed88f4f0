-- How the code comes to the lines, the text and the lists; the worked file; the one outcome of the shift check; and what a refused file leaves.
pub mod Texts
pub mod Verdicts
pub mod Worked
pub mod Determined
pub mod Refused
