pub mod Emissions
pub mod Heads
