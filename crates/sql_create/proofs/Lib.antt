pub mod BankRowLemmas
pub mod CheckLemmas
pub mod CreateLemmas
pub mod FilledLemmas
pub mod GoesLemmas
pub mod MakingLemmas
pub mod UserLemmas
