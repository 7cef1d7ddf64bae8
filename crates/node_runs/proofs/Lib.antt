mod EndLaws
mod SessionLaws
mod DiskLaws
pub mod FaultLaws
pub mod QuietLaws
pub mod CompleteLaws
mod OperatorLaws
mod Words
