pub mod Given
pub mod HeldRows
pub mod Tests
pub mod Texts
