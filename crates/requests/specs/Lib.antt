pub mod Memory
pub mod Runs
pub mod Statuses
