pub mod Command
pub mod PolicyOp
pub mod Ranges
