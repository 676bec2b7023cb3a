pub mod Calls
pub mod Past
pub mod Readiness
pub mod Ways
