mod Prelude
pub mod ChainLaws
pub mod RuleLaws
pub mod ShapeLaws
pub mod StampLaws
pub mod EffectStamps
pub mod OrderLaws
pub mod CostLaws
