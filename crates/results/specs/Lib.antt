pub mod Sorted
pub mod Told
