pub mod Spanning
pub mod Marking
pub mod Counting
