pub mod BlankLemmas
pub mod CutLemmas
pub mod FieldLemmas
pub mod JudgeLemmas
pub mod LineLemmas
pub mod SeenLemmas
pub mod WordLemmas
