pub mod Fields
pub mod Laws
pub mod Request
pub mod RouterRows
pub mod Routes
