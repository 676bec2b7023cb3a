pub mod CommandRows
pub mod Commands
pub mod Laws
pub mod StoredRows
