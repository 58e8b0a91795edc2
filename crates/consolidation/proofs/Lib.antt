pub mod Squash
pub mod Adding
pub mod Entries
pub mod Laws
