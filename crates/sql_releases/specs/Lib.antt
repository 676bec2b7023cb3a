pub mod Given
pub mod SlipCountLaws
pub mod Tables
pub mod Texts
