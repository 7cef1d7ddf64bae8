pub mod Lines
pub mod Streams
pub mod Bounds
pub mod Outside
pub mod Reading
pub mod Laws
pub mod Prompt
