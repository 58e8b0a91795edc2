pub mod Appends
pub mod Tallied
