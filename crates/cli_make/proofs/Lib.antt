mod CarriedLemmas
mod CheckedLemmas
mod ListLemmas
mod MadeLemmas
mod YearLemmas
