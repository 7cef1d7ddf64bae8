pub mod Keys
pub mod Entries
pub mod Form
pub mod Levels
pub mod Laws
pub mod Sound
