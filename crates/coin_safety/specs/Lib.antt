pub mod Numbers
pub mod Advice
pub mod Words
pub mod Commands
pub mod Index
pub mod Answered
pub mod Lean
pub mod Laws
