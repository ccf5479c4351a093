pub mod Small
pub mod Touched
pub mod Effects
pub mod Counted
pub mod Parts
pub mod Sums
pub mod Laws
