pub mod Records
pub mod Trees
pub mod Walk
pub mod Commands
pub mod Acts
pub mod Laws
