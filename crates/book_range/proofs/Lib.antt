pub mod BesideRows
pub mod FoundRows
pub mod GroupKeys
pub mod Judged
pub mod NamedParts
pub mod NumberedRows
pub mod RangeJoined
pub mod SameCounts
