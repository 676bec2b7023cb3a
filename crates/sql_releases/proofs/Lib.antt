pub mod ReleaseLemmas
pub mod SlipCountLemmas
pub mod SlipLemmas
pub mod TableLemmas
