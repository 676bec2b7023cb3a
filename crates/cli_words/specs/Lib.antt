pub mod Commands
pub mod Explained
