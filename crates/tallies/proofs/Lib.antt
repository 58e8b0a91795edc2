pub mod Counting
mod Appending
