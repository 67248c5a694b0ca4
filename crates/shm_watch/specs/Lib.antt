pub mod Turns
pub mod Columns
pub mod Spans
