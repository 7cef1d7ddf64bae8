pub mod State
pub mod Texts
pub mod Inside
pub mod Undone
pub mod Tips
pub mod Walked
pub mod Known
