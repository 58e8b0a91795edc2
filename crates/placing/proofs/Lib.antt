pub mod Parts
pub mod Placed
