pub mod Connection
pub mod History
pub mod Parts
pub mod Serving
