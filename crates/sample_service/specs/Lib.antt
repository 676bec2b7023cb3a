pub mod Answered
pub mod Ends
pub mod Serving
pub mod Stores
pub mod Tables
