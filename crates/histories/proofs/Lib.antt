pub mod Steps
pub mod Suffixes
pub mod Sweeps
pub mod Loads
pub mod Advances
