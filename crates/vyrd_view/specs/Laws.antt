-- What is proved of the decoders: zeroed words give nothing, what is given to a key fits 64 bits,
-- and all parts together give what the words show. The impls of `Decode` name these laws, and that
-- of `Value` names the last. Here stand proofs alone: no contract says what they define.
pub mod Sums
pub mod Slots
pub mod Chunks
pub mod Buffers
pub mod TwoAmounts
