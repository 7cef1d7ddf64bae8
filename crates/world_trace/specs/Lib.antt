pub mod Asked
pub mod Deadlines
pub mod Events
pub mod Orders
pub mod Reading
pub mod Told
pub mod Read
pub mod Traces
