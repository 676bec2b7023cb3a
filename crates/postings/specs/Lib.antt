pub mod Correct
pub mod Laws
pub mod Post
pub mod Transfer
