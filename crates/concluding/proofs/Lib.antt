pub mod Concluding
pub mod Answering
