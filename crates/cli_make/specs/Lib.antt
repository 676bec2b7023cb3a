pub mod Carrying
pub mod Faults
pub mod Forwarding
pub mod Inited
pub mod Lists
pub mod Making
pub mod Reading
pub mod Upgrading
