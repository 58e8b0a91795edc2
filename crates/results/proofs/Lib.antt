pub mod Sorted
pub mod Filled
pub mod Told
