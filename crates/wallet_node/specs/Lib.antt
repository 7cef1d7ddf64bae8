pub mod State
pub mod Opening
pub mod Faults
pub mod Inside
pub mod Lives
pub mod SharedHistories
