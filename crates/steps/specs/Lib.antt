pub mod Walks
pub mod Parts
