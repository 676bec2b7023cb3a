mod ActionLemmas
mod DayLemmas
mod MomentLemmas
mod PartLemmas
mod PlaceLemmas
mod UnseenLemmas
