pub mod Runs
pub mod Worked
