pub mod Lists
pub mod Times
pub mod Frontiers
pub mod Consolidate
pub mod Records
pub mod Slices
