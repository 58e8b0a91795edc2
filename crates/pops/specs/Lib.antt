pub mod Standing
pub mod Popping
