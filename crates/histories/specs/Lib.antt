pub mod Places
pub mod Suffixes
pub mod Loads
pub mod Advances
