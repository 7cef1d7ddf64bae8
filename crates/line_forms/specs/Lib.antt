pub mod Words
pub mod Names
pub mod Forms
pub mod Tokens
pub mod Pieces
pub mod Laws
pub mod Refusals
