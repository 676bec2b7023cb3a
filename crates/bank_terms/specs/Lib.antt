pub mod Limits
pub mod Procedure
pub mod Rule
