mod Prelude
pub mod ExecutionLaws
pub mod TrackingLaws
pub mod EffectFacts
pub mod StepLaws
pub mod BlockFacts
pub mod CountLaws
pub mod OutcomeLaws
pub mod FaultLaws
