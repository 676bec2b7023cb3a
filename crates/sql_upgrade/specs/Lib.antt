pub mod Carried
pub mod Left
pub mod Proceeds
