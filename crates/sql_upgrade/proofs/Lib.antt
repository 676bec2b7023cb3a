pub mod CarryLemmas
pub mod DropLemmas
pub mod LeftLemmas
pub mod ProceedsLemmas
