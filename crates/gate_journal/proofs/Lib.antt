pub mod Words
pub mod Read
mod Spelling
pub mod Front
mod Left
pub mod Crash
mod OpenCalls
pub mod Rest
mod Making
pub mod Stopped
pub mod Lives
mod Appending
