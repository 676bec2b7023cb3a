pub mod Adopted
pub mod Older
pub mod Refused
pub mod ReadBack
pub mod Unread
