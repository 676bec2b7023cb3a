pub mod BankRow
pub mod BookRows
pub mod Faults
pub mod PolicyTables
pub mod Tables
pub mod Texts
pub mod Typed
pub mod Whole
