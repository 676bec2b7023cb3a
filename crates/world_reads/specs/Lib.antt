pub mod BookReads
pub mod Laws
pub mod PolicyListing
pub mod PolicyReads
