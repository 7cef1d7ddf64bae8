pub mod Exits
pub mod Agreement
pub mod Judging
pub mod Changes
pub mod Settling
