pub mod Words
pub mod SlotLists
pub mod TakenBack
