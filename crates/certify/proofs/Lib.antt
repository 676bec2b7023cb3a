pub mod CommandBooks
pub mod CommandRules
pub mod RemovedRows
pub mod SeparatedPolicy
pub mod SomeRows
pub mod SoundPolicy
pub mod SoundTables
pub mod StoredRows
