pub mod BranchParts
pub mod Denial
pub mod Planned
pub mod Rules
pub mod Signed
