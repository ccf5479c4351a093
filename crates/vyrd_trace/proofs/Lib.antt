mod Prelude
pub mod HistoryGrows
pub mod Parts
pub mod Holding
pub mod Stays
pub mod CellMoves
pub mod Claiming
pub mod Drawing
pub mod Publishing
pub mod Dealing
pub mod Closings
pub mod Merges
