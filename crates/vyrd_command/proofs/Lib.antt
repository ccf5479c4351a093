mod Prelude
pub mod InputLaws
pub mod BehindLaws
pub mod FormLaws
pub mod CheckWords
pub mod AccountLaws
pub mod StepLaws
pub mod TellingLaws
pub mod EveryLaws
pub mod EveryWritten
pub mod MoversLaws
pub mod ExplainLaws
pub mod BatchLaws
pub mod StatusLaws
pub mod CommandLaws
pub mod CountLaws
