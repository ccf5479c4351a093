mod Prelude
pub mod DifferenceLaws
pub mod TurnLaws
pub mod DifferingLaws
pub mod TouchedLaws
pub mod GatheredLaws
pub mod FollowLaws
pub mod KeyLaws
pub mod LastLaws
pub mod PassLaws
pub mod SetLaws
pub mod NextKeyLaws
pub mod OwnWordLaws
pub mod WordLaws
pub mod TreeLaws
pub mod NodeKeyLaws
pub mod NodeTurnLaws
