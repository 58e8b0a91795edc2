pub mod Spans
pub mod Changed
pub mod Ranked
