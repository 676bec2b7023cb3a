pub mod AllowedClose
pub mod AllowedMove
pub mod AllowedOff
pub mod AllowedOn
mod DrawerCounted
pub mod DrawerThere
pub mod PlacedLines
mod PlacesMoved
