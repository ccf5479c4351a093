-- The correct cache: its structure, and that each of its procedures does right.
pub mod Guards
pub mod Chunks
pub mod Wholes
