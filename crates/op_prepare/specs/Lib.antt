pub mod BookRows
pub mod Judged
