pub mod KeptLemmas
pub mod KnownLemmas
pub mod PlaceLemmas
pub mod PlanLemmas
pub mod RequiredLemmas
pub mod SetLemmas
pub mod ThenLemmas
