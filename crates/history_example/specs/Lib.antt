pub mod Logs
pub mod Shown
