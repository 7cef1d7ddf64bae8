pub mod GrowLaws
pub mod RunLaws
pub mod LackLaws
mod SessionLaws
mod GrammarLaws
pub mod CompleteLaws
mod BeginLaws
