pub mod FoundRows
pub mod RuleTests
