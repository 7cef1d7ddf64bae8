pub mod LineLaws
pub mod OutsideLaws
pub mod StreamLaws
mod StopLaws
mod ReadLaws
mod GoingLaws
pub mod BeginningLaws
pub mod PromptLaws
pub mod CompleteLaws
