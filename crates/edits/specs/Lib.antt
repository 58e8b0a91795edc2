pub mod Edits
pub mod Buffers
