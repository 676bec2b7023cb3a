pub mod InRange
pub mod NumberLemmas
pub mod PlainReports
pub mod RouteLemmas
