pub mod Tallies
pub mod Windowing
pub mod Keyed
