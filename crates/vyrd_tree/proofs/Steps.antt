-- What the proofs of a step need: what is left after it.
pub mod Walk
pub mod Loads
pub mod Entry
pub mod Split
pub mod Stores
