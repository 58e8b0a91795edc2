pub mod Telling
pub mod Frontier
