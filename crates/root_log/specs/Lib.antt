pub mod Calls
pub mod EndOfLog
pub mod Grammar
pub mod Refusals
