pub mod Entries
mod Keys
pub mod Plans
pub mod Standing
pub mod Users
