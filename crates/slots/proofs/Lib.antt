pub mod Alike
pub mod Large
