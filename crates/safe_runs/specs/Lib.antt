pub mod Cases
pub mod Answers
pub mod Sessions
pub mod Runs
pub mod Complete
pub mod Inside
