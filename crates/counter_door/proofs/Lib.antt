pub mod WayLemmas
mod Walks
