mod ActionLemmas
mod MomentLemmas
mod ServedLemmas
