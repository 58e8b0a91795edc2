pub mod Merged
pub mod Turned
pub mod Going
pub mod Settling
