pub mod AnswerLemmas
pub mod ClosedLemmas
pub mod EndLemmas
pub mod GatheredLemmas
pub mod HistoryLemmas
pub mod ServedLemmas
