pub mod Heads
pub mod Emissions
