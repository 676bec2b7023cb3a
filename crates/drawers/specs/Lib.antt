pub mod CloseDay
pub mod DrawerOff
pub mod DrawerOn
pub mod DrawerRows
pub mod Laws
pub mod MoveCash
