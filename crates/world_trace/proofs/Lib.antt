-- Lemmas of this crate.
pub mod Ending
pub mod FactTelling
pub mod Ticks
pub mod BodyLaws
pub mod AnswerLaws
pub mod StopLaws
pub mod ReadLaws
pub mod Telling
