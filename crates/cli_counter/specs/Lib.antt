pub mod Actions
pub mod Attending
pub mod Faults
pub mod InFile
pub mod Moments
pub mod Places
