mod Prelude
pub mod LineFacts
pub mod LogFacts
pub mod AnswerFacts
pub mod JudgedFacts
pub mod SettledLaws
pub mod Opened
pub mod TextLaws
pub mod RoundLaws
pub mod UnfinishedLaws
pub mod CostLaws
