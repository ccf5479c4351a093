-- The correct multiset: its structure, and that each of its procedures does right.
pub mod Guards
pub mod Parts
pub mod Endings
pub mod Wholes
