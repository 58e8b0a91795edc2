pub mod Tallies
pub mod Windowed
pub mod Keyed
