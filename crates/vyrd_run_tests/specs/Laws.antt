-- What is proved of the visits that the tests of the run by turns play. Their machine names these
-- laws. Here stand proofs alone: no contract says what they define.
pub mod Visits
