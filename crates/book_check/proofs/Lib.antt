pub mod CashConditions
pub mod FirstFailing
pub mod HistoryConditions
pub mod KeptNumbers
pub mod KeptRows
pub mod TurnParts
pub mod TurnWalk
