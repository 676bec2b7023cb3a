pub mod ColumnTests
pub mod LineLemmas
pub mod NextLemmas
pub mod SelectLemmas
pub mod WorldLemmas
