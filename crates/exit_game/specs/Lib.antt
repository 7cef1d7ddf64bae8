pub mod Challenges
pub mod Slots
pub mod SlotMaps
pub mod Games
pub mod Laws
