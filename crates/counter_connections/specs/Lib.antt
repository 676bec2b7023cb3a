pub mod Connections
pub mod Failed
pub mod Limited
pub mod Port
