pub mod Sets
pub mod Heads
