pub mod Actions
pub mod Faults
pub mod Listening
pub mod Moments
pub mod Replied
pub mod Serving
