pub mod Agree
pub mod Along
pub mod Laws
pub mod Local
pub mod Premises
pub mod View
pub mod Views
