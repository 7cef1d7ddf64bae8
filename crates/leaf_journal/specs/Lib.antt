pub mod Records
pub mod Leaves
pub mod Laws
pub mod Sound
