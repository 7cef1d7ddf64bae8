pub mod EndingLaws
pub mod FaultLaws
pub mod PromptLaws
pub mod PutLaws
mod Words
