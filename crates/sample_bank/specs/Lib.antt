pub mod Badges
pub mod Opening
pub mod SamplePolicy
