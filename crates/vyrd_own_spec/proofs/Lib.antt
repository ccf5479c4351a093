mod Prelude
pub mod CallLaws
pub mod TouchLaws
pub mod EffectCounts
pub mod PartLaws
pub mod StartLaws
pub mod SmallLaws
pub mod StandingLaws
