pub mod LaneLaws
pub mod Moves
pub mod NumberLaws
