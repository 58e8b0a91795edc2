pub mod Times
pub mod Adding
pub mod Putting
pub mod Buffers
