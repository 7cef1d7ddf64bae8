pub mod Words
pub mod Images
pub mod Left
pub mod Plans
mod Undone
pub mod Calls
pub mod Held
