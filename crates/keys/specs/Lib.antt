pub mod Spans
pub mod Changed
