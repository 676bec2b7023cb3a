pub mod Blank
pub mod Filled
pub mod Goes
pub mod Made
pub mod Texts
