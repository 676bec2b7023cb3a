pub mod Given
pub mod Picks
pub mod Texts
pub mod Turns
