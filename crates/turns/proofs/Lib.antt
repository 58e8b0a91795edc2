pub mod Parts
pub mod Turning
