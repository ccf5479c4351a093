pub mod JudgeLaws
pub mod TakenLaws
