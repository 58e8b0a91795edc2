pub mod Removing
pub mod Inserting
