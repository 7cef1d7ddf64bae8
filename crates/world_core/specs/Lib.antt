pub mod Worlds
pub mod Lines
pub mod Taking
pub mod Counting
