pub mod Heads
pub mod Wholes
pub mod Lent
