pub mod Meets
pub mod Loads
pub mod Gather
