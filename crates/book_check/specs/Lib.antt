pub mod Least
pub mod RowConditions
pub mod Turns
pub mod Verdict
