pub mod FirstFound
pub mod GroupOrder
