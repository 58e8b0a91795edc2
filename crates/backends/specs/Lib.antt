pub mod Columns
pub mod Correct
pub mod Modes
pub mod Segments
