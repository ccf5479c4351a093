pub mod TakenLaws
pub mod PieceLaws
pub mod CountedLaws
pub mod CheckLaws
pub mod WriteLaws
pub mod StatusLaws
