pub mod Identity
pub mod Signing
pub mod Runs
pub mod Verdict
pub mod Inside
pub mod Complete
