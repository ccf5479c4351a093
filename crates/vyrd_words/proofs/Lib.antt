mod Prelude
pub mod StartedLaws
pub mod WordsLaws
pub mod CutLaws
pub mod FewLaws
pub mod ShadowFacts
pub mod ActLaws
pub mod StartingLaws
pub mod StartWords
pub mod CostLaws
pub mod CountLaws
pub mod OwedLaws
pub mod TouchedLaws
pub mod PendingLaws
pub mod PriceLaws
