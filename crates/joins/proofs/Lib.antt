pub mod Heads
pub mod Sets
