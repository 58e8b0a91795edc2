pub mod Ascending
pub mod Room
pub mod Rows
