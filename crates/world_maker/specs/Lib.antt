pub mod Generator
pub mod Laws
