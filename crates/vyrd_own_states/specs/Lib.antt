pub mod OwnReplies
pub mod PartPairs
