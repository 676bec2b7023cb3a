pub mod Changed
pub mod Ordered
pub mod Totals
