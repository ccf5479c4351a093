mod Prelude
pub mod NumberLists
pub mod PartSums
pub mod Memories
pub mod AloneLaws
pub mod SoundActs
pub mod TimedActs
pub mod Small
mod BoundSums
mod PlayLaws
mod PlayedLaws
mod ShownLaws
mod UnfinishedLaws
mod RunLaws
pub mod Situations
pub mod LegalEvents
pub mod Agreements
pub mod KeptRules
pub mod RaceLaws
mod LaneLaws
pub mod LoggedCalls
pub mod HeldLocks
pub mod LegalRuns
pub mod OneEnd
