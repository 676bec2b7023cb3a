pub mod Firsts
pub mod Found
pub mod GoesOn
pub mod Kept
pub mod Listed
pub mod Rising
pub mod There
pub mod Turns
