-- What a scan of a map gives.
pub mod Dues
pub mod Lines
pub mod Totals
