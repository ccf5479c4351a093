pub mod Batches
pub mod BatchAnswers
pub mod LongBatches
pub mod Rounds
pub mod Costs
