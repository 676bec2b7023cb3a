pub mod Counted
pub mod Range
pub mod Text
