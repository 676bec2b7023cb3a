mod ActionLemmas
mod AfterCrashLemmas
pub mod CrashLemmas
pub mod DayLemmas
pub mod MomentLemmas
pub mod OpenedLemmas
mod PageLemmas
mod Premises
mod SumLemmas
mod TextLemmas
