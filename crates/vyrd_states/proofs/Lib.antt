mod Prelude
pub mod CallLaws
pub mod KnownLaws
pub mod ReplyLaws
pub mod RunLaws
pub mod StartLaws
pub mod WindowLaws
pub mod RefusedLaws
