mod Prelude
pub mod BeginLaws
pub mod CaseLaws
pub mod ItemLaws
pub mod ReplyLaws
pub mod OwnShownLaws
pub mod OwnAfterLaws
pub mod PairLaws
pub mod TurnedLaws
pub mod OwnGivenLaws
