mod SessionLaws
pub mod CompleteLaws
pub mod StayLaws
