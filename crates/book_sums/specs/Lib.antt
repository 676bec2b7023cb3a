pub mod Groups
pub mod Records
pub mod Shares
pub mod Sums
