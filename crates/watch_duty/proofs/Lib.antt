pub mod Words
pub mod Members
pub mod Shown
pub mod Dues
pub mod GuardLinks
pub mod Accepts
pub mod OneChallenge
pub mod Places
