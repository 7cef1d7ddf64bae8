pub mod Role
pub mod Notes
pub mod Effect
pub mod Begin
pub mod Laws
pub mod Inside
pub mod Parts
