pub mod CashGap
pub mod Kept
pub mod Laws
pub mod Ledger
pub mod Limits
pub mod Moves
pub mod Next
pub mod PlanMoves
