pub mod PolicyVerdict
pub mod Separation
pub mod Soundness
