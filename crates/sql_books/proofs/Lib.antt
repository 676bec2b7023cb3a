pub mod AccountLemmas
pub mod BankLemmas
pub mod BranchLemmas
pub mod EntryLemmas
pub mod LineLemmas
pub mod ProofLemmas
pub mod TellerLemmas
pub mod TurnLemmas
