pub mod Summing
pub mod Shown
pub mod Passing
pub mod Orderly
pub mod Seen
pub mod Columns
pub mod Showing
