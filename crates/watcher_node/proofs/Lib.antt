pub mod Order
pub mod Steps
pub mod Dues
pub mod Kept
pub mod Notes
mod Words
