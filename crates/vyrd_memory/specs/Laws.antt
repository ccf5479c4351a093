-- What is proved of the scripts that a player plays. Impls in src/ name these laws. Here stand
-- proofs alone: no contract says what they define.
pub mod Underway
pub mod Player
